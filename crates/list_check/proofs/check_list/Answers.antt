-- The loop's invariant: the records taken are fit, and those that are left add to the counts and the marks what all add to none.
use mathlib.Core.Path.{◌∙◌}
use Rattle.list_check.proofs.Taken.{take_goes}
use Rattle.list_check.proofs.check_list.Goals as goal

pub loop-cell-preserved : goal.loop-cell-preserved
loop-cell-preserved c = (
  take_goes _ _ _ _ c.loop-cell.invariant.0 c.loop-cell-test.true _ c.in_ok-record.ensures _ c.with-counts.ensures _ c.mark_cell-nets.ensures,
  c.mark_cell-nets.auto.marks ∙ c.loop-cell.invariant.1,
)
