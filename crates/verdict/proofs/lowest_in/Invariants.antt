-- The loop's invariant: no cell below i stands in the LAB.
use Rattle.verdict.proofs.Steps.{Lowest}
use Rattle.verdict.proofs.lowest_in.Given as goal

abbrev pub invariant-loop-i : goal.invariant-loop-i
invariant-loop-i l = Lowest l.answer l.cells l.lab l.i
