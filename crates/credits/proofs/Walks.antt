-- How the loops go: the keys that are filled in, and the passes over the sorted keys. Assumes nothing.
use Prim.Native.Nat.{ℕ, ◌+◌, ◌*◌, ◌≤◌, ◌<◌}
use mathlib.Core.Path.{◌≡◌, sym, ap, ◌∙◌}
use mathlib.Core.List.{List, [], ◌∷◌, ◌++◌, map, append-nil}
use native.Mathlib.Numerals.{add-one}
use native.Mathlib.Omega.{arith}
use lib.ListN.{length, get_or, set, drop}
use lib.Seq.{sets, drop-cons, drop-length}
use Rattle.sheet.specs.Lists.{below}
use Rattle.sheet.proofs.Lists.{map-suc, table_length, store_behind, sets_front}
use Rattle.std.specs.Prelude.{Option, Some, None}
use Rattle.credits.specs.declared.Row.{Row}
use Rattle.credits.specs.passes.Keys.{key_at, entry_of}
use Rattle.credits.specs.passes.Rows.{rows_begun, minutes_so_far, with_entry, row_after, stored, rows_by}

-- ---- the keys of the entries before i are filled in
pub record Keyed (l lent keys : List ℕ) (i : ℕ) : Type 0 where
  pub within : i ≤ length lent
  pub filled : keys ≡ sets lent 0 (map (key_at l) (below i))

module _ (l lent keys : List ℕ) (i : ℕ) (s : Keyed l lent keys i) where
  pub key_goes : (n k : ℕ) → n ≡ i → k ≡ key_at l n → i < length lent → Keyed l lent (set keys i k) (i + 1)
  key_goes n k q e h =
      let xs = map (key_at l) (below i) in
      let here : length xs ≡ i = table_length (key_at l) i in
      let behind : set (sets lent 0 xs) i (key_at l i) ≡ sets lent 0 (xs ++ (key_at l i ∷ [])) = rw here at (store_behind lent xs (key_at l i)) in
      record {
        within = omega (arith, h);
        filled = rw (e, q, s.filled, add-one i) (behind ∙ ap (λ (ks : List ℕ). sets lent 0 ks) (sym (map-suc (key_at l) i)));
      }

  pub key_ends : length lent ≤ i → keys ≡ map (key_at l) (below (length lent))
  key_ends h =
      let all : i ≡ length lent = omega (arith, s.within) in
      let xs = map (key_at l) (below (length lent)) in
      let long : length xs ≡ length lent = table_length (key_at l) (length lent) in
      s.filled ∙ rw all (sets_front lent xs (omega arith) ∙ rw (long, drop-length lent) (append-nil xs))

-- ---- the entries of the keys before i are tallied
pub record Walked (l ks : List ℕ) (i : ℕ) (last : Option Row) : Type 0 where
  pub within : i ≤ length ks
  pub few : rows_begun last ≤ i
  pub small : minutes_so_far last ≤ 65535 * i
  pub same : row_after None (map (entry_of l) ks) ≡ row_after last (map (entry_of l) (drop i ks))

module _ (l ks : List ℕ) (i : ℕ) (last : Option Row) (s : Walked l ks i last) where
  pub walk_goes : (k : ℕ) (r : Row) → i < length ks → k ≡ get_or ks i 0 → r ≡ with_entry last (entry_of l k) → r.number ≤ rows_begun last → r.minutes ≤ minutes_so_far last + 65535
      → Walked l ks (i + 1) (Some r)
  unfolding row_after
  walk_goes k r h q e f m =
      record {
        within = omega arith;
        few = omega (arith, s.few);
        small = omega (arith, s.small);
        same = s.same ∙ rw (drop-cons ks i 0 h, ← q, e, add-one);
      }

  pub walk_ends : length ks ≤ i → last ≡ row_after None (map (entry_of l) ks)
  unfolding row_after
  walk_ends h = let all : i ≡ length ks = omega (arith, s.within) in sym (s.same ∙ rw (all, drop-length ks))

-- ---- and their rows are stored
pub record Filled (l ks : List ℕ) (lent rows : List (List ℕ)) (i : ℕ) (last : Option Row) : Type 0 where
  pub walked : Walked l ks i last
  pub same : rows_by None lent (map (entry_of l) ks) ≡ rows_by last rows (map (entry_of l) (drop i ks))

module _ (l ks : List ℕ) (lent rows : List (List ℕ)) (i : ℕ) (last : Option Row) (s : Filled l ks lent rows i last) where
  pub fill_goes : (k : ℕ) (r : Row) (after : List (List ℕ)) → i < length ks → k ≡ get_or ks i 0 → r ≡ with_entry last (entry_of l k) → r.number ≤ rows_begun last
      → r.minutes ≤ minutes_so_far last + 65535 → after ≡ stored rows r → Filled l ks lent after (i + 1) (Some r)
  unfolding rows_by
  fill_goes k r after h q e f m p =
      record {
        walked = walk_goes l ks i last s.walked k r h q e f m;
        same = s.same ∙ rw (drop-cons ks i 0 h, ← q, p, e, add-one);
      }

  pub fill_ends : length ks ≤ i → rows ≡ rows_by None lent (map (entry_of l) ks)
  unfolding rows_by
  fill_ends h = let all : i ≡ length ks = omega (arith, s.walked.within) in sym (s.same ∙ rw (all, drop-length ks))
