-- The loop's invariant: what the search finds is what it finds with the entries from e on, its tries are those made and those that begin with an entry
-- from e on, and what is noted of an entry is that it failed, whether it makes no difference, and the tries after it. Each call has one need fewer left.
-- Assumes nothing.
use Prim.Native.Nat.{◌+◌, ◌≤◌}
use mathlib.Core.Path.{◌≡◌}
use lib.ListN.{length}
use mathlib.Core.List.{◌∷◌}
use Rattle.entries.specs.Table.{ENTRIES}
use Rattle.route.proofs.Placing.{Turn}
use Rattle.route.proofs.+place.Given as goal

abbrev pub decreases-place : goal.decreases-place
decreases-place l = length l.rest.now

abbrev pub invariant-loop-e : goal.invariant-loop-e
invariant-loop-e l = (l.rest ≡ l.need ∷ l.after) × (l.at + length l.rest ≤ 8) × (length l.held ≡ ENTRIES) × Turn l.table l.held l.need l.after l.at l.tries l.noted l.e
