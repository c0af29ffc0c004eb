-- The loop's invariant: where none was found, none of the LABs that were looked at has a cell.
use Prim.Native.Nat.{◌-◌, ◌≤◌}
use Rattle.lab_pass.specs.passes.Results.{has_cells, EmptyUnless}
use Rattle.lab_pass.proofs.any_occupied.Given as goal

abbrev pub invariant-loop-lab : goal.invariant-loop-lab
invariant-loop-lab l = (l.from ≤ l.lab) × EmptyUnless (has_cells l.first l.next) l.from (l.lab - l.from) l.any
