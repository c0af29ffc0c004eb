-- A table by net: what one store leaves, and that a table filled cell by cell holds, for each net, the last cell that has it at a port. Where
-- only one cell can have it, that is the one. Assumes nothing.
use Prim.Native.Nat.{ℕ, zero, suc, ◌+◌, ◌≤◌, ◌<◌}
use mathlib.Core.Path.{◌≡◌, refl, sym, ◌∙◌}
use mathlib.Core.Bool.{Bool, true, false, cond, not, ◌&&◌, true≢false, or-false}
use mathlib.Core.List.{List}
use native.Mathlib.Omega.{arith}
use lib.ListN.{length, get_or, set, replicate, length-set, length-replicate}
use lib.Seq.{get_or-set_same, get_or-set_other}
use lib.Dec.{eqb}
use borrow.Author.Tests.{ne_eqb, eqb-true, eqb-false}
use Rattle.sheet.specs.Lists.{below, anyb}
use Rattle.sheet.specs.Signal.{is_net, net_of}
use Rattle.sheet.proofs.Laws.{by_test}
use Rattle.tables.specs.Records.{is_of}
use Rattle.tables.specs.passes.Tables.{cell_for, told_cell, some_cell}
use Rattle.sheet.specs.Checks.{NONE}
use Rattle.sheet.proofs.Lists.{any-suc, any_none, get_or-all}

-- ---- one store
module _ {A : Type 0} where
  -- v at the net of the signal s, where s is a net
  abbrev pub placed : List A → ℕ → A → List A
  placed t s v = cond (is_net s) (set t (net_of s) v) t

  pub placed_length : (t : List A) (s : ℕ) (v : A) → length (placed t s v) ≡ length t
  placed_length t s v = by_test (is_net s) (λ n. rw (n, length-set)) (λ n. rw n)

  pub placed_at : (t : List A) (s : ℕ) (v : A) (k : ℕ) (d : A) → (is_net s ≡ true → net_of s < length t)
      → get_or (placed t s v) k d ≡ cond (is_of k s) v (get_or t k d)
  placed_at t s v k d low =
      by_test (is_net s)
      (λ n. rw n (by_test (eqb (net_of s) k)
      (λ e. rw (e, ← eqb-true (net_of s) k e) (get_or-set_same t (net_of s) v d (low n)))
      (λ e. rw (e, get_or-set_other t (net_of s) k v d (λ q. eqb-false (net_of s) k e (sym q))))))
      (λ n. rw n)

-- a test of the cell at the net of a signal
pub some_told : (p : ℕ → Bool) (t : List ℕ) (s : ℕ) → some_cell p (told_cell t s) ≡ not (eqb (cell_for t s) NONE) && p (cell_for t s)
some_told p t s = by_test (eqb (cell_for t s) NONE) (λ e. rw e) (λ e. rw e)

-- ---- the last number at which a test holds
-- the last number below n that passes, or NONE
unfoldable pub last_below : (ℕ → Bool) → ℕ → ℕ
last_below q zero = NONE
last_below q (suc n) = cond (q n) n (last_below q n)

-- no number below n passes after one that does
abbrev pub AtMostOnce : (ℕ → Bool) → ℕ → Type 0
AtMostOnce q n = (j : ℕ) → j < n → q j ≡ true → anyb q (below j) ≡ false

pub once_last : (q p : ℕ → Bool) (n : ℕ) → n ≤ NONE → AtMostOnce q n
    → anyb (λ j. q j && p j) (below n) ≡ not (eqb (last_below q n) NONE) && p (last_below q n)
unfolding last_below
once_last q p zero few once = refl
once_last q p (suc n) few once =
    any-suc (λ j. q j && p j) n
    ∙ by_test (q n)
    (λ t. rw (t, any_none q (λ j. q j && p j) (λ j f. rw f) (below n) (once n (omega arith) t), ne_eqb n NONE (λ e. omega arith)))
    (λ t. rw (t, or-false (anyb (λ j. q j && p j) (below n))) (once_last q p n (omega arith) (λ j l. once j (omega arith))))

-- a count that rises by one or more at each number that passes, and that stays at one or less
module _ (q : ℕ → Bool) (count : ℕ → ℕ) (rises : (n : ℕ) → count n + cond (q n) 1 0 ≤ count (suc n)) where
  count_mono : (j n : ℕ) → j ≤ n → count j ≤ count n
  count_mono j zero l = let e : j ≡ 0 = omega arith in rw e (omega arith)
  count_mono j (suc n) l =
      by_test (eqb j (suc n)) (λ e. rw (eqb-true j (suc n) e) (omega arith))
      (λ e. let f = eqb-false j (suc n) e in omega (arith, rises n, count_mono j n (omega arith)))

  count_some : (n : ℕ) → anyb q (below n) ≡ true → 1 ≤ count n
  count_some zero h = absurd (true≢false (sym h))
  count_some (suc n) h =
      by_test (q n) (λ t. omega (arith, rw t at (rises n)))
      (λ t. omega (arith, rises n, count_some n (rw (any-suc q n, t, or-false (anyb q (below n))) at h)))

  pub once_count : (n : ℕ) → count n ≤ 1 → AtMostOnce q n
  once_count n most j l t =
      by_test (anyb q (below j))
      (λ h. absurd (omega (arith, count_some j h, rw t at (rises j), count_mono (suc j) n l)))
      (λ h. h)

-- ---- the cells that have a net at a port
module _ (port : ℕ → ℕ) (m : ℕ) (low : (j : ℕ) → is_net (port j) ≡ true → net_of (port j) < m) (table : ℕ → List ℕ)
    (starts : table 0 ≡ replicate m NONE) (goes : (j : ℕ) → table (suc j) ≡ placed (table j) (port j) j) where
  table_length : (n : ℕ) → length (table n) ≡ m
  table_length zero = rw starts (length-replicate {A = ℕ} m NONE)
  table_length (suc n) = rw (goes n) (placed_length (table n) (port n) n ∙ table_length n)

  pub table_at : (k n : ℕ) → get_or (table n) k NONE ≡ last_below (λ j. is_of k (port j)) n
  unfolding last_below
  table_at k zero = rw (starts, get_or-all {A = ℕ} m k NONE)
  table_at k (suc n) =
      rw (goes n, placed_at (table n) (port n) n k NONE (λ e. rw (table_length n) (low n e)), table_at k n)
