-- How the entries that cover nothing are listed, one entry after the other. Assumes nothing.
use Prim.Native.Nat.{ℕ, zero, suc, ◌+◌, ◌≤◌, ◌<◌}
use mathlib.Core.Path.{◌≡◌, refl, ap, ◌∙◌}
use mathlib.Core.Bool.{Bool, true, false, cond}
use mathlib.Core.List.{List, [], ◌∷◌, ◌++◌, append-nil}
use native.Mathlib.Numerals.{add-one}
use native.Mathlib.Omega.{arith}
use lib.ListN.{length, set, length-append}
use lib.Seq.{sets}
use Rattle.std.specs.List.{range_with_len}
use Rattle.sheet.specs.Lists.{filterb, from, below}
use Rattle.sheet.proofs.Lists.{filter-append, below_suc, store_behind}
use Rattle.tablet_log.specs.Log.{entry_at}
use Rattle.tablet_log.specs.Minutes.{covers_none, empty_below}

-- the numbers of a range
range_from : (i k : ℕ) → range_with_len i k ≡ from i k
range_from i zero = refl
range_from i (suc k) = rw (add-one, range_from (suc i) k)

pub range_below : (n : ℕ) → range_with_len 0 n ≡ below n
range_below n = range_from 0 n

module _ (l : List ℕ) where
  empty_next : (i : ℕ) → empty_below l (suc i) ≡ empty_below l i ++ cond (covers_none (entry_at l i)) (i ∷ []) []
  unfolding empty_below
  empty_next i =
      let p : ℕ → Bool = λ j. covers_none (entry_at l j) in
      ap (filterb p) (below_suc i) ∙ filter-append p (below i) (i ∷ [])

  -- the entries below i were looked at, and n of them are listed
  pub record Listed (lent numbers : List ℕ) (count n i : ℕ) : Type 0 where
    pub within : i ≤ count
    pub few : n ≤ i
    pub filled : n ≡ length (empty_below l i)
    pub written : numbers ≡ sets lent 0 (empty_below l i)

  pub list_starts : (lent : List ℕ) (count : ℕ) → Listed lent lent count 0 0
  unfolding empty_below
  list_starts lent count = record { within = omega arith; few = omega arith; filled = refl; written = refl }

  module _ (lent numbers : List ℕ) (count n i : ℕ) (s : Listed lent numbers count n i) where
    pub list_more : i < count → covers_none (entry_at l i) ≡ true → Listed lent (set numbers n i) count (n + 1) (i + 1)
    list_more h t =
        let xs = empty_below l i in
        let more : empty_below l (i + 1) ≡ xs ++ i ∷ [] = rw add-one (empty_next i ∙ rw t) in
        record {
          within = omega arith;
          few = omega (arith, s.few);
          filled = rw more (omega (arith, length-append xs (i ∷ []), s.filled));
          written = rw (more, s.written, s.filled) (store_behind lent xs i);
        }

    pub list_same : i < count → covers_none (entry_at l i) ≡ false → Listed lent numbers count n (i + 1)
    list_same h t =
        let same : empty_below l (i + 1) ≡ empty_below l i = rw add-one (empty_next i ∙ rw t (append-nil (empty_below l i))) in
        record {
          within = omega arith;
          few = omega (arith, s.few);
          filled = rw same s.filled;
          written = rw same s.written;
        }
