-- The loop's invariant: the records taken are fit, and those that are left add to the counts and the marks what all add to none.
use mathlib.Core.Path.{◌≡◌}
use lib.ListN.{length}
use Rattle.distinct.specs.passes.Marks.{marking}
use Rattle.list_check.proofs.Taken.{Taken}
use Rattle.list_check.proofs.check_list.Given as goal

abbrev pub invariant-loop-cell : goal.invariant-loop-cell
invariant-loop-cell l = Taken l.cells l.counts (marking l.marks l.nets) l.cell-index × (length l.marks ≡ 1024)
