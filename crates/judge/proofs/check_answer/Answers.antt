-- Each way out is one law of Steps: the header, the count, the length, the first place out of range.
use Rattle.judge.proofs.Outcomes.{err_given}
use Rattle.judge.proofs.Steps.{answer_refused, answer_count_lem, answer_length, answer_range}
use mathlib.Core.Path.{refl}
use Rattle.judge.proofs.check_answer.Goals as goal

pub returns-in_err-check_head : goal.returns-in_err-check_head
returns-in_err-check_head c =
    answer_refused c.args.exercise.now c.args.answer.now c.check_head.result c.check_head.ensures _ c.in_err-check_head.was (err_given _ _ c.from_residual.ensures.1)

pub returns-then-place_count-cells : goal.returns-then-place_count-cells
returns-then-place_count-cells c =
    answer_count_lem c.args.exercise.now c.args.answer.now c.check_head.result c.check_head.ensures _ _ _ c.in_ok-check_head.was c.cell_count-cells.ensures c.place_count.ensures
    c.if-place_count-cells.true refl

pub returns-then-wrong_answer_length : goal.returns-then-wrong_answer_length
returns-then-wrong_answer_length c =
    answer_length c.args.exercise.now c.args.answer.now c.check_head.result c.check_head.ensures _ _ _ c.in_ok-check_head.was c.cell_count-cells.ensures c.place_count.ensures
    _ c.if-place_count-cells.false c.wrong_answer_length.ensures c.if-wrong_answer_length.true refl

pub returns : goal.returns
returns c =
    answer_range c.args.exercise.now c.args.answer.now c.check_head.result c.check_head.ensures _ _ _ c.in_ok-check_head.was c.cell_count-cells.ensures c.place_count.ensures
    _ c.if-place_count-cells.false c.wrong_answer_length.ensures _ c.if-wrong_answer_length.false c.first_out_of_range.ensures c.refuse.ensures
