-- One turn of `place`'s loop, on lists: what is left to try after an entry that gives nothing, and the answer where one does. Assumes nothing.
use Prim.Native.Nat.{ℕ, suc, ◌+◌, ◌-◌, ◌<◌, ◌≤◌}
use mathlib.Core.Path.{◌≡◌, refl, ap, ◌∙◌}
use mathlib.Core.Bool.{Bool, true, false}
use mathlib.Core.List.{List, [], ◌∷◌}
use mathlib.Core.Option.{Option, none, some}
use native.Mathlib.Numerals.{add-one}
use native.Mathlib.Omega.{arith}
use lib.ListN.{set, replicate}
use lib.Seq.{sets, set_comm}
use Rattle.std.specs.Prelude.{Some, None}
use Rattle.route.specs.passes.Search.{attempt, pick, search_from}
use Rattle.route.specs.passes.Partial.{routed_from}

-- of the entries from e up to size, e is tried and then those from e + 1 on
module _ (ok : ℕ → Bool) (rest : ℕ → Option (List ℕ)) (size e : ℕ) where
  pub pick_step : e < size → pick ok rest (size - e) e ≡ attempt (ok e) (rest e) e (pick ok rest (size - (e + 1)) (e + 1))
  unfolding pick
  pick_step h =
      let count : size - e ≡ suc (size - (e + 1)) = omega arith in
      rw (count, add-one) refl

  pub pick_end : size ≤ e → pick ok rest (size - e) e ≡ none
  unfolding pick
  pick_end h =
      let count : size - e ≡ 0 = omega arith in
      rw count refl

-- an answer that finds nothing says that there is nothing
pub found_none : (at : ℕ) (o : Option (List ℕ)) → None ≡ routed_from at o → o ≡ none
unfolding routed_from
found_none at none q = refl
found_none at (some w) q = cc

-- an element before those that are stored may be stored after them
sets_set : (l : List ℕ) (i j a : ℕ) (w : List ℕ) → i < j → sets (set l i a) j w ≡ set (sets l j w) i a
sets_set l i j a [] h = refl
sets_set l i j a (b ∷ w) h =
    ap (λ (m : List ℕ). sets m (suc j) w) (set_comm l i j a b (λ q. omega arith)) ∙ sets_set (set l j b) i (suc j) a w (omega arith)

-- e tried: it may not be given, the other needs find nothing, or they find their entries
module _ (at : ℕ) (b : Bool) (e : ℕ) (other : Option (List ℕ)) where
  pub not_given : (found : Option (List ℕ)) → b ≡ false → attempt b found e other ≡ other
  not_given found p = rw p refl

  pub not_found : (found : Option (List ℕ)) → None ≡ routed_from at found → attempt b found e other ≡ other
  not_found found q = rw (found_none at found q) (neither b)
    where
      neither : (x : Bool) → attempt x none e other ≡ other
      neither true = refl
      neither false = refl

  pub is_found : (found : Option (List ℕ)) (way : List ℕ) → b ≡ true → Some way ≡ routed_from (at + 1) found
      → Some (set way at e) ≡ routed_from at (attempt b found e other)
  unfolding routed_from
  is_found none way p q = cc
  is_found (some w) way p q =
      let is : way ≡ sets (replicate 8 255) (at + 1) w = cc in
      rw (p, is, add-one, sets_set (replicate 8 255) at (suc at) e w (omega arith)) refl

module _ {S N : Type 0} (ok : S → N → ℕ → Bool) (next : S → N → ℕ → S) (size : ℕ) (s : S) where
  -- the entries of the first need are tried from 0 on
  pub search_start : (n : N) (ns : List N) → search_from ok next size s (n ∷ ns) ≡ pick (ok s n) (λ e. search_from ok next size (next s n e) ns) (size - 0) 0
  unfolding search_from
  search_start n ns =
      let all : size - 0 ≡ size = omega arith in
      rw all refl

  -- no need is left
  pub search_end : (at : ℕ) → Some (replicate 8 255) ≡ routed_from at (search_from ok next size s [])
  unfolding routed_from search_from
  search_end at = refl

-- no entry is left
pub no_entry_left : (at : ℕ) (o : Option (List ℕ)) → o ≡ none → None ≡ routed_from at o
unfolding routed_from
no_entry_left at o q = rw q refl
