-- The loop's invariant: the byte is the entry at `left` among those of the role's needs from need i on. Assumes nothing.
use Rattle.route.proofs.Bytes.{Passed}
use Rattle.route.proofs.byte_for.Given as goal

abbrev pub invariant-loop-i : goal.invariant-loop-i
invariant-loop-i l = Passed l.role l.needs l.entries l.j l.i l.left
