-- What the first broken check of a list finds: of two lists in turn, of a whole sheet, of one check for each cell, and of the checks of
-- each cell or LAB in turn. Assumes nothing.
use Prim.Native.Nat.{ℕ, zero, suc, ◌+◌}
use mathlib.Core.Path.{◌≡◌, refl, ap, ◌∙◌}
use mathlib.Core.Bool.{Bool, false, cond, not}
use mathlib.Core.List.{List, [], ◌∷◌, ◌++◌, map}
use native.Mathlib.Omega.{arith}
use lib.Dec.{eqb, ltb}
use borrow.Author.Tests.{ne_eqb, lt-ltb, le-ltb}
use Rattle.sheet.specs.Lists.{Every, concat_map, from, below, first_from}
use Rattle.sheet.specs.Checks as sheet
use Rattle.sheet.proofs.Laws.{by_test}
use Rattle.sheet.specs.Checks.{NONE}
use Rattle.verdict.specs.declared.Finding.{Finding}
use Rattle.judge.specs.Judge.{Check, of_sheet, of_cell, of_lab, per_cell, first_broken}
use Rattle.verdict.specs.Verdicts.{finding, legal}
use Rattle.judge.specs.Demands.{AllHold}

-- no number is 0
abbrev pub Numbered : List Check → Type 0
Numbered ks = Every (λ k. k.finding.number ≡ 0 → ⊥) ks

abbrev pub NumberedIn : List sheet.Check → Type 0
NumberedIn ks = Every (λ k. k.number ≡ 0 → ⊥) ks

-- ---- two lists in turn
pub skip_held : (xs ys : List Check) → AllHold xs → first_broken (xs ++ ys) ≡ first_broken ys
unfolding AllHold
skip_held [] ys h = refl
skip_held (x ∷ xs) ys h = rw h.0 (skip_held xs ys h.1)

pub hold_append : (xs ys : List Check) → AllHold (xs ++ ys) → AllHold xs × AllHold ys
unfolding AllHold
hold_append [] ys h = (tt, h)
hold_append (x ∷ xs) ys h = let g = hold_append xs ys h.1 in ((h.0, g.0), g.1)

pub append_hold : (xs ys : List Check) → AllHold xs → AllHold ys → AllHold (xs ++ ys)
unfolding AllHold
append_hold [] ys h g = g
append_hold (x ∷ xs) ys h g = (h.0, append_hold xs ys h.1 g)

pub first_append : (xs ys : List Check) → Numbered xs
    → first_broken (xs ++ ys) ≡ cond (eqb (first_broken xs).number 0) (first_broken ys) (first_broken xs)
first_append [] ys h = refl
first_append (x ∷ xs) ys h =
    by_test x.broken (λ b. rw (b, ne_eqb x.finding.number 0 h.0)) (λ b. rw b (first_append xs ys h.1))

-- ---- one list
-- what is true of legal and of each check's finding is true of what the first broken one finds
pub found : (P : Finding → Type 0) → P legal → (ks : List Check) → Every (λ k. P k.finding) ks → P (first_broken ks)
found P l [] h = l
found P l (k ∷ ks) h = by_test k.broken (λ b. rw b h.0) (λ b. rw b (found P l ks h.1))

pub hold_legal : (ks : List Check) → AllHold ks → first_broken ks ≡ legal
unfolding AllHold
hold_legal [] h = refl
hold_legal (k ∷ ks) h = rw h.0 (hold_legal ks h.1)

pub legal_hold : (ks : List Check) → Numbered ks → (first_broken ks).number ≡ 0 → AllHold ks
unfolding AllHold
legal_hold [] n e = tt
legal_hold (k ∷ ks) n e = by_test k.broken (λ b. absurd (n.0 (rw b at e))) (λ b. (b, legal_hold ks n.1 (rw b at e)))

-- whether the first check of number n is broken
abbrev pub broken_of : ℕ → List Check → Bool
broken_of n [] = false
broken_of n (k ∷ ks) = let later = broken_of n ks in cond (eqb n k.finding.number) k.broken later

-- a held check, looked up by its number
pub held : (n : ℕ) (ks : List Check) → AllHold ks → broken_of n ks ≡ false
unfolding AllHold
held n [] h = refl
held n (k ∷ ks) h = by_test (eqb n k.finding.number) (λ q. rw (q, h.0)) (λ q. rw q (held n ks h.1))

-- ---- a whole sheet
pub sheet_finds : (ks : List sheet.Check) → first_broken (of_sheet ks) ≡ finding (sheet.first_number ks) NONE NONE
sheet_finds [] = refl
sheet_finds (k ∷ ks) = by_test k.broken (λ b. rw b) (λ b. rw b (sheet_finds ks))

-- the same of a sheet's checks that give no number
pub held_number : (n : ℕ) (ks : List sheet.Check) → Numbered (of_sheet ks) → sheet.first_number ks ≡ 0 → broken_of n (of_sheet ks) ≡ false
held_number n ks d h = held n (of_sheet ks) (legal_hold (of_sheet ks) d (ap (λ (f : Finding). f.number) (sheet_finds ks) ∙ h))

-- ---- cells and LABs in turn
-- a search through the k numbers from i on that finds q at the first one where f holds
module _ (f : ℕ → Bool) (q : ℕ → Finding) (S : ℕ → ℕ → Finding) (ends : (i : ℕ) → S i zero ≡ legal)
    (goes : (i k : ℕ) → S i (suc k) ≡ cond (f i) (q i) (S (suc i) k)) where
  from_finds : (i k : ℕ) → S i k ≡ cond (ltb (first_from f i k) (i + k)) (q (first_from f i k)) legal
  unfolding first_from
  from_finds i zero = ends i ∙ rw (le-ltb i (i + 0) (omega arith))
  from_finds i (suc k) =
      let same : suc i + k ≡ i + suc k = omega arith in
      goes i k ∙ by_test (f i) (λ e. rw (e, lt-ltb i (i + suc k) (omega arith))) (λ e. rw (e, ← same) (from_finds (suc i) k))

  below_finds : (k : ℕ) → S 0 k ≡ cond (ltb (first_from f 0 k) k) (q (first_from f 0 k)) legal
  below_finds k = let same : 0 + k ≡ k = omega arith in rw same at (from_finds 0 k)

pub run_finds : (n : ℕ) (f : ℕ → Bool) (k : ℕ)
    → first_broken (per_cell n f (below k)) ≡ cond (ltb (first_from f 0 k) k) (finding n (first_from f 0 k) NONE) legal
run_finds n f k = below_finds f (λ i. finding n i NONE) (λ i j. first_broken (per_cell n f (from i j))) (λ i. refl) (λ i j. refl) k

-- the checks of one cell or LAB, where p says what each number finds there
abbrev pub of_one : (ℕ → Finding) → List sheet.Check → List Check
of_one p ks = map (λ k. record { finding = p k.number; broken = k.broken }) ks

one_append : (p : ℕ → Finding) (ks : List sheet.Check) (ys : List Check) → NumberedIn ks
    → first_broken (of_one p ks ++ ys) ≡ cond (not (eqb (sheet.first_number ks) 0)) (p (sheet.first_number ks)) (first_broken ys)
one_append p [] ys h = refl
one_append p (k ∷ ks) ys h = by_test k.broken (λ b. rw (b, ne_eqb k.number 0 h.0)) (λ b. rw b (one_append p ks ys h.1))

module _ (g : ℕ → List sheet.Check) where
  -- cell or LAB i breaks one of its checks
  abbrev pub breaks_one : ℕ → Bool
  breaks_one i = not (eqb (sheet.first_number (g i)) 0)

  pub each_finds : (p : ℕ → ℕ → Finding) (k : ℕ) → ((i : ℕ) → NumberedIn (g i))
      → first_broken (concat_map (λ i. of_one (p i) (g i)) (below k))
      ≡ let i = first_from breaks_one 0 k in cond (ltb i k) (p i (sheet.first_number (g i))) legal
  each_finds p k h =
      below_finds breaks_one (λ i. p i (sheet.first_number (g i))) (λ i j. first_broken (concat_map (λ m. of_one (p m) (g m)) (from i j)))
      (λ i. refl) (λ i j. one_append (p i) (g i) (concat_map (λ m. of_one (p m) (g m)) (from (suc i) j)) (h i)) k

  pub cells_find : (k : ℕ) → ((i : ℕ) → NumberedIn (g i))
      → first_broken (concat_map (λ i. of_cell i (g i)) (below k))
      ≡ let i = first_from breaks_one 0 k in cond (ltb i k) (finding (sheet.first_number (g i)) i NONE) legal
  cells_find = each_finds (λ i n. finding n i NONE)

  pub labs_find : (k : ℕ) → ((l : ℕ) → NumberedIn (g l))
      → first_broken (concat_map (λ l. of_lab l (g l)) (below k))
      ≡ let l = first_from breaks_one 0 k in cond (ltb l k) (finding (sheet.first_number (g l)) NONE l) legal
  labs_find = each_finds (λ l n. finding n NONE l)
