-- No cell before i has a lower one's key, and the keys of all of them are marked: a key without a mark was not met.
use Rattle.clashes.proofs.Keys.{Marked}
use Rattle.clashes.proofs.free_to.Given as goal

abbrev pub invariant-loop-i : goal.invariant-loop-i
invariant-loop-i l = Marked l.keys l.cells l.marks l.i
