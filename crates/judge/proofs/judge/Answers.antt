-- The verdict of `judge_sheets`, handed out in parts; the culprit lies inside its sheet, so it begins at its start.
use mathlib.Core.Path.{refl}
use Rattle.judge.proofs.Steps.{handed_out}
use Rattle.judge.proofs.judge.Goals as goal

pub returns-clause-place : goal.returns-clause-place
returns-clause-place c =
    let v = c.judge_sheets-v in
    let s = c.args in
    (handed_out s.settings.now s.exercise.now s.answer.now s.route.now v.new.route s.tries.now v.new.tries v.result
    c.part_of.result.now s.exercise.ref_ptr s.answer.ref_ptr c.part_of.result.ref_ptr _ _ _
    v.ensures.verdict v.ensures.routes v.ensures.counts c.part_of.ensures.bytes c.part_of.ensures.place
    refl refl refl).1.0
