-- The loop's invariant: the first i parts are stored.
use Rattle.writer.proofs.Putting.{Stored}
use Rattle.writer.proofs.put_each.Given as goal

abbrev pub invariant-loop-i : goal.invariant-loop-i
invariant-loop-i g l = Stored g.P.Part.bytes l.parts l.initial.to l.at l.to l.i
