-- The most tries: with k needs and f entries, f + f * f + .., k terms, whatever may be given. With eight needs and eight entries that is 19,173,960.
-- Assumes nothing.
use Prim.Native.Nat.{ℕ, zero, suc, ◌+◌, ◌*◌, ◌≤◌}
use mathlib.Core.Path.{◌≡◌, refl}
use mathlib.Core.Bool.{Bool, true, false}
use mathlib.Core.List.{List, [], ◌∷◌}
use mathlib.Core.Option.{Option, none, some}
use native.Mathlib.Nat.{suc-mul, mul-le-mul, le_trans}
use native.Mathlib.Omega.{arith}
use lib.ListN.{length}
use Rattle.entries.specs.declared.Need.{Need}
use Rattle.entries.specs.Table.{Table, ENTRIES}
use Rattle.route.specs.Tries.{tries}
use Rattle.route.specs.passes.Search.{search_from, spent, tally, tries_from, held_by, tries_made}
use Rattle.entries.specs.passes.Entries.{may_have}
use Rattle.route.proofs.Ways.{none_held}
use Rattle.route.proofs.Tries.{made_tries}

-- f entries for each of k needs
unfoldable pub most : ℕ → ℕ → ℕ
most zero f = 0
most (suc k) f = f * suc (most k f)

-- more needs or more entries, more tries
pub most_up : (k m f g : ℕ) → k ≤ m → f ≤ g → most k f ≤ most m g
unfolding most
most_up zero m f g h l = omega arith
most_up (suc k) zero f g h l = absurd (omega arith)
most_up (suc k) (suc m) f g h l = let r = most_up k m f g (omega arith) l in mul-le-mul l (omega arith)

-- ---- the tries that begin with one of k entries: each is one, with at most b after it
spent_most : (ok : Bool) (found : Option (List ℕ)) (here later p b : ℕ) → here ≤ b → later ≤ p → spent ok found here later ≤ p + suc b
spent_most true (some w) here later p b h l = omega arith
spent_most true none here later p b h l = omega arith
spent_most false found here later p b h l = omega arith

tally_most : (ok : ℕ → Bool) (rest : ℕ → Option (List ℕ)) (after : ℕ → ℕ) (b : ℕ) → ((e : ℕ) → after e ≤ b) → (k e : ℕ)
    → tally ok rest after k e ≤ k * suc b
unfolding tally
tally_most ok rest after b h zero e = omega arith
tally_most ok rest after b h (suc k) e =
    rw suc-mul (spent_most (ok e) (rest e) (after e) (tally ok rest after k (suc e)) (k * suc b) b (h e) (tally_most ok rest after b h k (suc e)))

module _ {S N : Type 0} (ok : S → N → ℕ → Bool) (next : S → N → ℕ → S) (size : ℕ) where
  pub search_most : (s : S) (ns : List N) → tries_from ok next size s ns ≤ most (length ns) size
  unfolding tries_from most
  search_most s [] = omega arith
  search_most s (n ∷ ns) =
      tally_most (ok s n) (λ e. search_from ok next size (next s n e) ns) (λ e. tries_from ok next size (next s n e) ns) (most (length ns) size)
      (λ e. search_most (next s n e) ns) size 0

  -- 8 + 8 * 8 + .. + 8 to the eighth
  most_8_8 : most 8 8 ≡ 19173960
  unfolding most
  most_8_8 = refl

  pub search_limit : (s : S) (ns : List N) → size ≤ 8 → length ns ≤ 8 → tries_from ok next size s ns ≤ 19173960
  search_limit s ns h l = le_trans (search_most s ns) (rw most_8_8 at (most_up (length ns) 8 size 8 l h))

-- what `place` makes for at most eight needs
pub place_limit : (t : Table) (held : List ℕ) (ns : List Need) → length ns ≤ 8 → tries_from (may_have t) held_by ENTRIES held ns ≤ 19173960
place_limit t held ns h = search_limit (may_have t) held_by ENTRIES held ns (omega arith) h

-- M-107: AT MOST 19,173,960 TRIES
pub tries_most : (t : Table) (ns : List Need) → length t ≤ 8 → length ns ≤ 8 → tries t ns ≤ 19173960
unfolding tries_made
tries_most t ns h l = omega (arith, made_tries t ns, search_limit (may_have t) held_by (length t) (none_held t) ns h l)
