-- Where something is found before the answer, it is found by all checks that no answer changes too; otherwise the cells are asked.
use mathlib.Core.Path.{sym, ap, ◌∙◌}
use Rattle.judge.proofs.Outcomes.{number_in, is_err_finds, not_err_finds}
use Rattle.judge.proofs.Preparing.{passed_exercise, prepare_stays, prepare_goes}
use Rattle.judge.proofs.prepare.Goals as goal

pub returns-then-is_err-clause-made : goal.returns-then-is_err-clause-made
returns-then-is_err-clause-made c =
    (prepare_stays c.args.settings.now c.args.exercise.now _ (c.of-early.ensures ∙ c.check_early-outcome.ensures)
    (λ z. is_err_finds c.check_early-outcome.result (sym c.is_err.ensures.value ∙ c.if-is_err.true) (ap number_in (sym c.of-early.ensures) ∙ z))).0

pub returns-then-is_err-clause-filled : goal.returns-then-is_err-clause-filled
returns-then-is_err-clause-filled c =
    (prepare_stays c.args.settings.now c.args.exercise.now _ (c.of-early.ensures ∙ c.check_early-outcome.ensures)
    (λ z. is_err_finds c.check_early-outcome.result (sym c.is_err.ensures.value ∙ c.if-is_err.true) (ap number_in (sym c.of-early.ensures) ∙ z))).1

pub check_cells-requires-clause-passed : goal.check_cells-requires-clause-passed
check_cells-requires-clause-passed c =
    passed_exercise c.args.settings.now c.args.exercise.now
    (ap number_in (sym c.check_early-outcome.ensures) ∙ not_err_finds c.check_early-outcome.result (sym c.is_err.ensures.value ∙ c.if-is_err.false))

pub returns-clause-made : goal.returns-clause-made
returns-clause-made c =
    (prepare_goes c.args.settings.now c.args.exercise.now _ (c.of-early.ensures ∙ c.check_early-outcome.ensures) _ _
    (ap number_in c.of-early.ensures ∙ not_err_finds c.check_early-outcome.result (sym c.is_err.ensures.value ∙ c.if-is_err.false))
    (c.of-fixed.ensures ∙ c.check_cells.ensures.found) c.check_cells.ensures.filled).0

pub returns-clause-filled : goal.returns-clause-filled
returns-clause-filled c =
    (prepare_goes c.args.settings.now c.args.exercise.now _ (c.of-early.ensures ∙ c.check_early-outcome.ensures) _ _
    (ap number_in c.of-early.ensures ∙ not_err_finds c.check_early-outcome.result (sym c.is_err.ensures.value ∙ c.if-is_err.false))
    (c.of-fixed.ensures ∙ c.check_cells.ensures.found) c.check_cells.ensures.filled).1
