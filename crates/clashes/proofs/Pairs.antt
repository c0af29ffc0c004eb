-- What the pairwise scan finds, where what the test may say is what a test on numbers says. Assumes nothing.
use Prim.Native.Nat.{ℕ, ◌+◌, ◌≤◌, ◌<◌}
use native.Mathlib.Omega.{arith}
use mathlib.Core.Path.{◌≡◌, sym, subst, ◌∙◌}
use mathlib.Core.Bool.{Bool, true, false, true≢false}
use lib.Dec.{eqb, ltb}
use borrow.Author.Tests.{eqb-true, eqb-false, ltb-true, ltb-false, le-ltb, lt-ltb}
use Rattle.std.specs.Prelude.{Option, Some, None, MatchOption}
use Rattle.sheet.specs.declared.CellNumber.{CellNumber}
use Rattle.sheet.specs.Lists.{first_from, first_cell, anyb, below}
use Rattle.sheet.proofs.Laws.{by_test}
use Rattle.sheet.proofs.First.{first_is, none_first}
use Rattle.sheet.proofs.Scan.{any_below, none_at}
use Rattle.clashes.specs.passes.Keys.{Apart, Clash}

abbrev pub clashes : (ℕ → ℕ → Bool) → ℕ → Bool
clashes g i = anyb (λ j. g j i) (below i)

pub clashes_none : (g : ℕ → ℕ → Bool) (i : ℕ) → ((j : ℕ) → j < i → g j i ≡ false) → clashes g i ≡ false
clashes_none g i none = any_below (λ j. g j i) i ∙ le-ltb (first_from (λ j. g j i) 0 i) i (omega (arith, none_first (λ j. g j i) i none))

pub clashes_one : (g : ℕ → ℕ → Bool) (i j : ℕ) → j < i → g j i ≡ true → clashes g i ≡ true
clashes_one g i j h t =
    by_test (clashes g i) (λ q. q)
    (λ q. absurd (true≢false (sym t ∙ none_at (λ k. g k i) i q j h)))

module _ (says : ℕ → ℕ → Bool → Type 0) (from : ℕ) where
  pub apart_none : Apart says from from
  unfolding Apart
  apart_none i a b = absurd (omega arith)

  pub apart_goes : (i : ℕ) → Apart says from i → ((j : ℕ) → j < i → says j i false) → Apart says from (i + 1)
  unfolding Apart
  apart_goes i apart none k a b =
      by_test (eqb k i) (λ t. subst (λ (m : ℕ). (j : ℕ) → j < m → says j m false) (sym (eqb-true k i t)) none) (λ t. let other = eqb-false k i t in apart k a (omega arith))

  pub apart_upto : (i n : ℕ) → Apart says from i → n ≤ i → Apart says from n
  unfolding Apart
  apart_upto i n apart h k a b = apart k a (omega arith)

  -- the scan at its end, and at a clash
  pub none_found : (n i : ℕ) → Apart says from i → n ≤ i → (r : Option CellNumber) → r ≡ None → MatchOption r (Apart says from n) (λ c. Clash says from n c.0)
  none_found n i apart h r e = rw e (apart_upto i n apart h)

  pub clash_found : (n i : ℕ) → Apart says from i → from ≤ i → i < n → (j : ℕ) → j < i → (b : Bool) → says j i b → b ≡ true
      → (r : Option CellNumber) → r ≡ Some (record { 0 = i }) → MatchOption r (Apart says from n) (λ c. Clash says from n c.0)
  clash_found n i apart a h j l b said t r e = rw e (record { above = a; within = h; met = (j, (l, rw t at said)); apart = apart })

module _ (says : ℕ → ℕ → Bool → Type 0) (g : ℕ → ℕ → Bool) (n : ℕ) (told : (i : ℕ) → i < n → (j : ℕ) → j < i → (b : Bool) → says j i b → b ≡ g j i)
    (from : ℕ) (free : (i : ℕ) → i < from → clashes g i ≡ false) where
  none_to : (m : ℕ) → m ≤ n → Apart says from m → (i : ℕ) → i < m → clashes g i ≡ false
  unfolding Apart
  none_to m h apart i b =
      by_test (ltb i from) (λ t. free i (ltb-true i from t))
      (λ t. clashes_none g i (λ j l. sym (told i (omega arith) j l false (apart i (ltb-false i from t) b j l))))

  -- the first cell that clashes
  pub first_clash : (r : Option CellNumber) → MatchOption r (Apart says from n) (λ c. Clash says from n c.0) → r ≡ first_cell (clashes g) n
  first_clash None apart = rw (none_first (clashes g) n (none_to n (omega arith) apart), le-ltb n n (omega arith))
  first_clash (Some c) found =
      let m = found.met in
      let here : clashes g c.0 ≡ true = clashes_one g c.0 m.0 m.1.0 (sym (told c.0 found.within m.0 m.1.0 true m.1.1)) in
      let first : first_from (clashes g) 0 n ≡ c.0 = first_is (clashes g) n 0 c.0 (omega arith) (omega (arith, found.within)) (λ i a b. none_to c.0 (omega (arith, found.within)) found.apart i b) here in
      rw (first, lt-ltb c.0 n found.within)
