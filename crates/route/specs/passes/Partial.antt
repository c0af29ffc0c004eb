-- What the search answers: the entries of the needs from some index on, and of all needs. Assumes nothing.
use Rattle.std.specs.Prelude.{ℕ, ◌-◌, List, ◌++◌, Some, None, length, replicate}
use Rattle.std.specs.Prelude as std
use Rattle.std.proofs.Math.Seq.{sets}
use Rattle.std.proofs.Math.Option.{Option, none, some}

-- the answer that holds the entries found for the needs from `at` on, and 255 elsewhere
unfoldable pub routed_from : ℕ → Option (List ℕ) → std.Option (List ℕ)
routed_from at none = None
routed_from at (some w) = Some (sets (replicate 8 255) at w)

-- the entries of the way, in the order of the needs, and 255 past them
unfoldable pub routed_of : Option (List ℕ) → std.Option (List ℕ)
routed_of none = None
routed_of (some w) = Some (w ++ replicate (8 - length w) 255)
