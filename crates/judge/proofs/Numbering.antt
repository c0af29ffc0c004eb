-- The first place that a numbering gives a number, of cells or of LABs. Assumes nothing.
use Prim.Native.Nat.{ℕ, ◌<◌}
use mathlib.Core.Path.{◌≡◌}
use mathlib.Core.Bool.{not}
use lib.Dec.{eqb, ltb}
use borrow.Author.Tests.{ltb-true, eqb-true, eqb-false, not-true, not-false}
use Rattle.sheet.specs.Lists.{first_from}
use Rattle.sheet.proofs.Laws.{by_test}
use Rattle.sheet.proofs.First.{first_below, none_below, some_below}
use Rattle.verdict.specs.declared.Finding.{Finding}
use Rattle.judge.specs.passes.Stages.{numbered_as}

module _ (found : ℕ → ℕ → Finding) where
  -- two that agree below n find the same
  pub numbered_same : (g h : ℕ → ℕ) (n : ℕ) → ((i : ℕ) → i < n → g i ≡ h i) → numbered_as found g n ≡ numbered_as found h n
  unfolding numbered_as
  numbered_same g h n e =
      let first : first_from (λ i. not (eqb (g i) 0)) 0 n ≡ first_from (λ i. not (eqb (h i) 0)) 0 n = first_below _ _ n (λ i b. rw (e i b)) in
      by_test (ltb (first_from (λ i. not (eqb (h i) 0)) 0 n) n)
      (λ t. rw (first, t, e (first_from (λ i. not (eqb (h i) 0)) 0 n) (ltb-true _ n t)))
      (λ t. rw (first, t))

  -- one that finds nothing gives no number
  pub numbered_none : ((m i : ℕ) → (found m i).number ≡ m) → (g : ℕ → ℕ) (n : ℕ) → (numbered_as found g n).number ≡ 0 → (i : ℕ) → i < n → g i ≡ 0
  unfolding numbered_as
  numbered_none told g n z i h =
      by_test (ltb (first_from (λ j. not (eqb (g j) 0)) 0 n) n)
      (λ p. absurd (eqb-false (g (first_from (λ j. not (eqb (g j) 0)) 0 n)) 0 (not-true _ (some_below (λ j. not (eqb (g j) 0)) n p)) (rw (p, told) at z)))
      (λ p. eqb-true (g i) 0 (not-false _ (none_below (λ j. not (eqb (g j) 0)) n p i h)))
