-- What is found up to 51, otherwise what the LABs have; the route and the tries are touched only in the latter case.
use mathlib.Core.Path.{◌∙◌}
use lib.ListN.{length}
use Rattle.judge.proofs.Outcomes.{err_given, err_finds, ok_finds, passed_on}
use Rattle.judge.proofs.Preparing.{finding_stays, finding_goes}
use Rattle.judge.proofs.check_sheets.Goals as goal

pub returns-in_err-check_alone-clause-found : goal.returns-in_err-check_alone-clause-found
returns-in_err-check_alone-clause-found c =
    let e = err_given _ _ c.from_residual.ensures.1 in
    (finding_stays c.args.settings.now c.args.exercise.now c.args.answer.now (length c.args.route.now) (length c.args.tries.now)
    c.requires.room c.requires.slots c.args.route.now c.args.tries.now _ (passed_on c.check_alone.result _ c.in_err-check_alone.was e ∙ c.check_alone.ensures)
    (err_finds c.from_residual.result _ e)).0

pub returns-in_err-check_alone-clause-counted : goal.returns-in_err-check_alone-clause-counted
returns-in_err-check_alone-clause-counted c =
    let e = err_given _ _ c.from_residual.ensures.1 in
    (finding_stays c.args.settings.now c.args.exercise.now c.args.answer.now (length c.args.route.now) (length c.args.tries.now)
    c.requires.room c.requires.slots c.args.route.now c.args.tries.now _ (passed_on c.check_alone.result _ c.in_err-check_alone.was e ∙ c.check_alone.ensures)
    (err_finds c.from_residual.result _ e)).1.1

pub returns-clause-found : goal.returns-clause-found
returns-clause-found c =
    (finding_goes c.args.settings.now c.args.exercise.now c.args.answer.now (length c.args.route.now) (length c.args.tries.now)
    c.requires.room c.requires.slots c.args.route.now c.args.tries.now _ c.check_alone.ensures (ok_finds c.check_alone.result _ c.in_ok-check_alone.was) _ c.entry_table.ensures
    _ c.judge_labs.ensures.found _ _ c.judge_labs.ensures.written c.judge_labs.ensures.counted).0

pub returns-clause-written : goal.returns-clause-written
returns-clause-written c =
    (finding_goes c.args.settings.now c.args.exercise.now c.args.answer.now (length c.args.route.now) (length c.args.tries.now)
    c.requires.room c.requires.slots c.args.route.now c.args.tries.now _ c.check_alone.ensures (ok_finds c.check_alone.result _ c.in_ok-check_alone.was) _ c.entry_table.ensures
    _ c.judge_labs.ensures.found _ _ c.judge_labs.ensures.written c.judge_labs.ensures.counted).1.0

pub returns-clause-counted : goal.returns-clause-counted
returns-clause-counted c =
    (finding_goes c.args.settings.now c.args.exercise.now c.args.answer.now (length c.args.route.now) (length c.args.tries.now)
    c.requires.room c.requires.slots c.args.route.now c.args.tries.now _ c.check_alone.ensures (ok_finds c.check_alone.result _ c.in_ok-check_alone.was) _ c.entry_table.ensures
    _ c.judge_labs.ensures.found _ _ c.judge_labs.ensures.written c.judge_labs.ensures.counted).1.1
