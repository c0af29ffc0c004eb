-- The loop's invariant: the lines of the LABs below `lab` are written.
use Prim.Native.Nat.{◌*◌}
use Rattle.listing.specs.passes.Marks.{lines_below}
use Rattle.listing.specs.passes.Writes.{Writes}
use Rattle.listing.proofs.Page.lab_lines.Given as goal

abbrev pub invariant-loop-lab : goal.invariant-loop-lab
invariant-loop-lab l = Writes l.initial.self (lines_below l.marks l.route l.lab) (127 * l.lab) l.self
