-- The lists by LAB give each LAB its cells; the pass over the LABs says which is the lowest that is broken.
use native.Mathlib.Omega.{arith}
use mathlib.Core.Path.{refl, sym, ap, ◌∙◌}
use Rattle.lab_pass.specs.passes.Results.{lowest_from}
use Rattle.judge.proofs.Preparing.{labs_stop, labs_refused, labs_end, rows_of_lem, tries_of_lem}
use Rattle.judge.proofs.check_labs.Goals as goal

pub returns-in-Ok-clause-found : goal.returns-in-Ok-clause-found
returns-in-Ok-clause-found c =
    labs_end c.args.table c.args.exercise.now c.args.answer.now _ _ _ c.cell_count-cells.ensures c.link_cells.ensures.firsts c.link_cells.ensures.nexts
    _ (sym (ap lowest_from c.in-Ok.is) ∙ c.route_labs.ensures.found) (omega arith) refl

pub returns-in-Ok-clause-written : goal.returns-in-Ok-clause-written
returns-in-Ok-clause-written c =
    rows_of_lem c.args.table c.args.exercise.now c.args.answer.now _ _ _ c.cell_count-cells.ensures c.link_cells.ensures.firsts c.link_cells.ensures.nexts
    _ c.route_labs.ensures.found c.args.rows.now _ c.route_labs.ensures.written

pub returns-in-Ok-clause-counted : goal.returns-in-Ok-clause-counted
returns-in-Ok-clause-counted c =
    tries_of_lem c.args.table c.args.exercise.now c.args.answer.now _ _ _ c.cell_count-cells.ensures c.link_cells.ensures.firsts c.link_cells.ensures.nexts
    _ c.route_labs.ensures.found c.args.tries.now _ c.route_labs.ensures.counted

pub returns-in-Err-clause-found : goal.returns-in-Err-clause-found
returns-in-Err-clause-found c =
    let found = sym (ap lowest_from c.in-Err.is) ∙ c.route_labs.ensures.found in
    let low = labs_refused c.args.table c.args.exercise.now c.args.answer.now _ _ _ c.cell_count-cells.ensures c.link_cells.ensures.firsts c.link_cells.ensures.nexts
    _ found c.in-Err.broken.refusal refl in
    labs_stop c.args.table c.args.exercise.now c.args.answer.now _ _ _ c.cell_count-cells.ensures c.link_cells.ensures.firsts c.link_cells.ensures.nexts
    _ found low

pub returns-in-Err-clause-written : goal.returns-in-Err-clause-written
returns-in-Err-clause-written c =
    rows_of_lem c.args.table c.args.exercise.now c.args.answer.now _ _ _ c.cell_count-cells.ensures c.link_cells.ensures.firsts c.link_cells.ensures.nexts
    _ c.route_labs.ensures.found c.args.rows.now _ c.route_labs.ensures.written

pub returns-in-Err-clause-counted : goal.returns-in-Err-clause-counted
returns-in-Err-clause-counted c =
    tries_of_lem c.args.table c.args.exercise.now c.args.answer.now _ _ _ c.cell_count-cells.ensures c.link_cells.ensures.firsts c.link_cells.ensures.nexts
    _ c.route_labs.ensures.found c.args.tries.now _ c.route_labs.ensures.counted
