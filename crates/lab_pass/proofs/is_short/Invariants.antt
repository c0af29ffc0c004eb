-- The loop's invariant: the cells that were passed and those that are left are the whole list. Where it answers
-- true no cell is left, and five were passed at the most; where it answers false six were.
use Rattle.lab_pass.proofs.Short.{Passed}
use Rattle.lab_pass.proofs.is_short.Given as goal

abbrev pub invariant-loop-k : goal.invariant-loop-k
invariant-loop-k l = Passed l.next 512 l.start l.at l._k
