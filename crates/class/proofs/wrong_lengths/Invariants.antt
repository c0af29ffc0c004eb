-- The loop's invariant: the walk stands where the length of answer i does.
use Rattle.class.proofs.Marking.{Walked}
use Rattle.class.proofs.wrong_lengths.Given as goal

abbrev pub invariant-loop-i : goal.invariant-loop-i
invariant-loop-i l = Walked l.class l._i-end l._i l.at
