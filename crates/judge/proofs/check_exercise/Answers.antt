-- Each way out is one law of Steps: the header, the first malformed record, the first net that is driven twice.
use Rattle.judge.proofs.Outcomes.{err_given}
use Rattle.judge.proofs.Steps.{exercise_refused, exercise_malformed, exercise_driven}
use Rattle.judge.proofs.check_exercise.Goals as goal

pub returns-in_err-check_head : goal.returns-in_err-check_head
returns-in_err-check_head c =
    exercise_refused c.args.exercise.now c.check_head.result c.check_head.ensures _ c.in_err-check_head.was (err_given _ _ c.from_residual.ensures.1)

pub returns-in_err-refuse : goal.returns-in_err-refuse
returns-in_err-refuse c =
    exercise_malformed c.args.exercise.now c.check_head.result c.check_head.ensures _ c.in_ok-check_head.was _ _ c.net_count-nets.ensures c.cell_count-cells.ensures
    _ c.first_malformed.ensures c.refuse.result c.refuse.ensures _ c.in_err-refuse.was (err_given _ _ c.from_residual-in_err-refuse.ensures.1)

pub returns : goal.returns
returns c =
    exercise_driven c.args.exercise.now c.check_head.result c.check_head.ensures _ c.in_ok-check_head.was _ _ c.net_count-nets.ensures c.cell_count-cells.ensures
    _ c.first_malformed.ensures c.refuse.result c.refuse.ensures _ _ c.in_ok-refuse.was c.first_double_driver.ensures c.refuse-2.ensures
