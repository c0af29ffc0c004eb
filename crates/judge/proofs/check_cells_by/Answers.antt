-- The run over the cells stops at the first that breaks a rule, and that rule is looked for again.
use mathlib.Core.Path.{refl, sym, ◌∙◌}
use Rattle.judge.proofs.Steps.{cells_kept, cell_broken, cell_fine}
use Rattle.judge.proofs.check_cells_by.Goals as goal

pub returns-in_default : goal.returns-in_default
returns-in_default c =
    cells_kept _ _ _ _ _ (sym c.in_default.is ∙ c.first_broken_cell.ensures) refl

pub returns-in-Ok : goal.returns-in-Ok
returns-in-Ok c =
    cell_fine _ _ _ _ _ c.in-Some.i _ c.check_cell.result (sym c.in-Some.is ∙ c.first_broken_cell.ensures) c.known_record_at-cell.ensures c.check_cell.ensures _ c.in-Ok.is refl

pub returns-in-Err : goal.returns-in-Err
returns-in-Err c =
    cell_broken _ _ _ _ _ c.in-Some.i _ c.check_cell.result (sym c.in-Some.is ∙ c.first_broken_cell.ensures) c.known_record_at-cell.ensures c.check_cell.ensures _ c.in-Err.is refl
