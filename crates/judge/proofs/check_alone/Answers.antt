-- What settings and exercise have, what the answer has, what the cells have, what the places have: the first that is something.
use mathlib.Core.Path.{refl, sym, ap, ◌∙◌}
use Rattle.judge.proofs.Outcomes.{number_in, err_given, err_finds, ok_finds, passed_on}
use Rattle.judge.proofs.Preparing.{passed_exercise, placed_stays, placed_goes, alone_early, alone_answer, alone_placed}
use Rattle.judge.proofs.check_alone.Goals as goal

pub returns-in_err-check_early : goal.returns-in_err-check_early
returns-in_err-check_early c =
    passed_on c.check_early.result _ c.in_err-check_early.was (err_given _ _ c.from_residual.ensures.1)
    ∙ alone_early c.args.settings.now c.args.exercise.now c.args.answer.now _ c.check_early.ensures (err_finds c.check_early.result _ c.in_err-check_early.was)

pub returns-in_err-check_answer : goal.returns-in_err-check_answer
returns-in_err-check_answer c =
    passed_on c.check_answer.result _ c.in_err-check_answer.was (err_given _ _ c.from_residual-in_err-check_answer.ensures.1)
    ∙ alone_answer c.args.settings.now c.args.exercise.now c.args.answer.now _ c.check_early.ensures _ (ok_finds c.check_early.result _ c.in_ok-check_early.was)
    c.check_answer.ensures (err_finds c.check_answer.result _ c.in_err-check_answer.was)

pub check_cells-requires-clause-passed : goal.check_cells-requires-clause-passed
check_cells-requires-clause-passed c =
    passed_exercise c.args.settings.now c.args.exercise.now (ap number_in (sym c.check_early.ensures) ∙ ok_finds c.check_early.result _ c.in_ok-check_early.was)

pub returns-in_err-check_cells : goal.returns-in_err-check_cells
returns-in_err-check_cells c =
    passed_on c.check_cells.result _ c.in_err-check_cells.was (err_given _ _ c.from_residual-in_err-check_cells.ensures.1)
    ∙ alone_placed c.args.settings.now c.args.exercise.now c.args.answer.now _ c.check_early.ensures _ (ok_finds c.check_early.result _ c.in_ok-check_early.was) c.check_answer.ensures
    _ _ (ok_finds c.check_answer.result _ c.in_ok-check_answer.was) c.check_cells.ensures.found c.check_cells.ensures.filled
    (placed_stays _ _ _ _ (err_finds c.check_cells.result _ c.in_err-check_cells.was))

pub returns : goal.returns
returns c =
    alone_placed c.args.settings.now c.args.exercise.now c.args.answer.now _ c.check_early.ensures _ (ok_finds c.check_early.result _ c.in_ok-check_early.was) c.check_answer.ensures
    _ _ (ok_finds c.check_answer.result _ c.in_ok-check_answer.was) c.check_cells.ensures.found c.check_cells.ensures.filled
    (placed_goes _ _ _ _ _ (ok_finds c.check_cells.result _ c.in_ok-check_cells.was) c.cell_count-cells.ensures c.check_places.ensures)
