-- The answer that `place` gives from the first need on is the one that `first_way` promises, and so are its tries. Assumes nothing.
use Prim.Native.Nat.{ℕ, ◌≤◌}
use mathlib.Core.Path.{◌≡◌, refl, sym, ap, ◌∙◌}
use mathlib.Core.List.{List}
use mathlib.Core.Option.{Option, none, some}
use native.Mathlib.Omega.{arith}
use lib.ListN.{length, replicate}
use Rattle.std.proofs.lemmas.List.{drop-replicate}
use Rattle.sheet.proofs.Lists.{sets_front}
use Rattle.entries.specs.declared.Need.{Need}
use Rattle.entries.specs.Table.{Table, ENTRIES}
use Rattle.route.specs.Way.{earliest_way}
use Rattle.route.specs.Tries.{tries}
use Rattle.route.specs.passes.Search.{search_from, tries_from, held_by, found_way, tries_made}
use Rattle.entries.specs.passes.Entries.{may_have}
use Rattle.route.specs.passes.Partial.{routed_from, routed_of}
use Rattle.route.proofs.AllWays.{found_earliest, earliest_some}
use Rattle.route.proofs.Tries.{made_tries}

from_first : (o : Option (List ℕ)) → ((w : List ℕ) → o ≡ some w → length w ≤ 8) → routed_from 0 o ≡ routed_of o
unfolding routed_from routed_of
from_first none h = refl
from_first (some w) h = rw (sets_front (replicate 8 255) w (h w refl), drop-replicate) refl

module _ (t : Table) (ns : List Need) (rows : length t ≡ ENTRIES) where
  pub whole : length ns ≤ 8 → routed_from 0 (search_from (may_have t) held_by ENTRIES (replicate ENTRIES 0) ns) ≡ routed_of (earliest_way t ns)
  unfolding found_way
  whole h =
      ap (λ (size : ℕ). routed_from 0 (search_from (may_have t) held_by size (replicate size 0) ns)) (sym rows)
      ∙ ap (routed_from 0) (found_earliest t ns)
      ∙ from_first (earliest_way t ns) (λ w q. omega (arith, (earliest_some t ns w q).0.as_long))

  -- and so are its tries
  pub whole_tries : tries_from (may_have t) held_by ENTRIES (replicate ENTRIES 0) ns ≡ tries t ns
  unfolding tries_made
  whole_tries = ap (λ (size : ℕ). tries_from (may_have t) held_by size (replicate size 0) ns) (sym rows) ∙ made_tries t ns
