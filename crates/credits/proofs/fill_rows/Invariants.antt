-- The loop's invariant: the entries of the keys so far are tallied, and their rows stored.
use Rattle.credits.proofs.Walks.{Filled}
use Rattle.credits.proofs.fill_rows.Given as goal

abbrev pub invariant-loop-key : goal.invariant-loop-key
invariant-loop-key l = Filled l.log l.keys l.initial.rows l.rows l.key-index l.last
