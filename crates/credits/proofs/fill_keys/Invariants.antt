-- The loop's invariant: the keys of the entries before i are filled in.
use Rattle.credits.proofs.Walks.{Keyed}
use Rattle.credits.proofs.fill_keys.Given as goal

abbrev pub invariant-loop-i : goal.invariant-loop-i
invariant-loop-i l = Keyed l.log l.initial.keys l.keys l.i
