-- The verdict is that of what the first broken check finds.
use mathlib.Core.Path.{ap, ◌∙◌}
use lib.ListN.{length}
use Rattle.judge.specs.Call.{call}
use Rattle.verdict.specs.Verdicts.{verdict_of}
use Rattle.judge.proofs.Preparing.{judge_done}
use Rattle.judge.proofs.judge_sheets.Goals as goal

pub returns-clause-verdict : goal.returns-clause-verdict
returns-clause-verdict c =
    let s = c.args in
    (judge_done (call s.settings.now s.exercise.now s.answer.now (length s.route.now) (length s.tries.now)) s.route.now s.tries.now _ _ _ _
    c.check_call-outcome.ensures.found c.check_call-outcome.ensures.written c.check_call-outcome.ensures.counted
    (c.verdict_of.ensures ∙ ap (verdict_of s.exercise.now s.answer.now) c.of.ensures)).0

pub returns-clause-routes : goal.returns-clause-routes
returns-clause-routes c =
    let s = c.args in
    (judge_done (call s.settings.now s.exercise.now s.answer.now (length s.route.now) (length s.tries.now)) s.route.now s.tries.now _ _ _ _
    c.check_call-outcome.ensures.found c.check_call-outcome.ensures.written c.check_call-outcome.ensures.counted
    (c.verdict_of.ensures ∙ ap (verdict_of s.exercise.now s.answer.now) c.of.ensures)).1.0

pub returns-clause-counts : goal.returns-clause-counts
returns-clause-counts c =
    let s = c.args in
    (judge_done (call s.settings.now s.exercise.now s.answer.now (length s.route.now) (length s.tries.now)) s.route.now s.tries.now _ _ _ _
    c.check_call-outcome.ensures.found c.check_call-outcome.ensures.written c.check_call-outcome.ensures.counted
    (c.verdict_of.ensures ∙ ap (verdict_of s.exercise.now s.answer.now) c.of.ensures)).1.1
