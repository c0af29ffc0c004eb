-- Outcomes one after the other: what one finds, and the next where it finds nothing. Assumes nothing.
use Prim.Native.Nat.{ℕ}
use mathlib.Core.Path.{◌≡◌, refl, sym, ap, ◌∙◌}
use mathlib.Core.Bool.{Bool, true, false, cond, true≢false}
use lib.Dec.{eqb, ltb}
use borrow.Author.Tests.{ne_eqb, eqb-false, eqb-true}
use Rattle.std.specs.Prelude.{Option, Some, None, Result, Ok, Err}
use Rattle.std.specs.Result.{IsErrAnd, IfErr, is_err}
use Rattle.sheet.specs.declared.CellNumber.{CellNumber}
use Rattle.sheet.specs.Checks.{NONE}
use Rattle.sheet.specs.Lists.{first_from, first_cell}
use Rattle.sheet.proofs.Laws.{by_test}
use Rattle.sheet.proofs.Refusals.{refused_number}
use Rattle.verdict.specs.declared.Broken.{Broken}
use Rattle.verdict.specs.declared.Broken.TheVariants as broken
use Rattle.verdict.specs.declared.Finding.{Finding}
use Rattle.verdict.specs.Verdicts.{finding, legal, finding_of, found}
use Rattle.judge.specs.passes.Stages.{at_cell, cell_finding}
use Rattle.judge.specs.passes.Preparing.{then, finding_in}

abbrev pub number_in : Finding → ℕ
number_in f = f.number

-- a broken rule has a number
pub broken_number : (b : Broken) → eqb (finding_of b).number 0 ≡ false
broken_number (broken.Sheet r) = refused_number r
broken_number (broken.Cell r i) = refused_number r
broken_number (broken.Lab r l) = refused_number r

-- the error that a `?` hands on
pub err_given : {A : Type 0} (b : Broken) (y : Result A Broken) → IsErrAnd y (λ x. x ≡ b) → y ≡ Err b
err_given b (Ok x) h = absurd h
err_given b (Err x) h = ap Err h

err_number : {A : Type 0} (z : Result A Broken) → is_err z ≡ true → (found z).number ≡ 0 → ⊥
err_number (Ok x) e h = absurd (true≢false (sym e))
err_number (Err b) e h = eqb-false (finding_of b).number 0 (broken_number b) h

ok_number : {A : Type 0} (z : Result A Broken) → is_err z ≡ false → (found z).number ≡ 0
ok_number (Ok x) e = refl
ok_number (Err b) e = absurd (true≢false e)

module _ {A : Type 0} (z : Result A Broken) where
  pub err_finds : (b : Broken) → z ≡ Err b → (found z).number ≡ 0 → ⊥
  err_finds b p h = eqb-false (finding_of b).number 0 (broken_number b) (sym (ap number_in (ap found p)) ∙ h)

  pub ok_finds : (u : A) → z ≡ Ok u → (found z).number ≡ 0
  ok_finds u p = ap number_in (ap found p)

  pub passed_on : {B : Type 0} (b : Broken) {y : Result B Broken} → z ≡ Err b → y ≡ Err b → found y ≡ found z
  passed_on b p q = ap found q ∙ sym (ap found p)

  pub is_err_finds : is_err z ≡ true → (found z).number ≡ 0 → ⊥
  is_err_finds = err_number z

  pub not_err_finds : is_err z ≡ false → (found z).number ≡ 0
  not_err_finds = ok_number z

module _ (f g : Finding) where
  -- an outcome that finds something is left at once
  pub chain_stays : {A B : Type 0} (z : Result A Broken) (b : Broken) {y : Result B Broken} → found z ≡ f → z ≡ Err b → y ≡ Err b → found y ≡ then f g
  chain_stays z b h p q =
      let e : f ≡ finding_of b = sym h ∙ ap found p in
      ap found q ∙ rw (e, broken_number b)

  -- one that finds nothing leaves the next one
  pub chain_goes : {A : Type 0} (z : Result A Broken) (u : A) {r : Finding} → found z ≡ f → z ≡ Ok u → r ≡ g → r ≡ then f g
  chain_goes z u h p q =
      let e : f ≡ legal = sym h ∙ ap found p in
      rw e q

pub ruleset chain = (chain_stays, chain_goes)

-- what a run over the cells finds, and the next where it has come to the end
module _ (n : ℕ) (f : ℕ → Bool) (k : ℕ) where
  pub cell_at : cell_finding n (first_cell f k) ≡ at_cell n (first_from f 0 k) k
  cell_at = by_test (ltb (first_from f 0 k) k) (λ b. rw b) (λ b. rw b)

  pub cell_then : (g : Finding) → (n ≡ 0 → ⊥) → then (cell_finding n (first_cell f k)) g ≡ cond (ltb (first_from f 0 k) k) (finding n (first_from f 0 k) NONE) g
  cell_then g h = by_test (ltb (first_from f 0 k) k) (λ b. rw (b, ne_eqb n 0 h)) (λ b. rw b)

-- a run that has found nothing
pub none_found : (n : ℕ) (i : Option CellNumber) → (n ≡ 0 → ⊥) → legal ≡ cell_finding n i → None ≡ i
none_found n None h e = refl
none_found n (Some i) h e = absurd (h (sym (ap (λ (f : Finding). f.number) e)))

-- ---- outcomes whose error is a finding
-- the finding that a `?` hands on
pub finding_given : {A : Type 0} (f : Finding) (y : Result A Finding) → IsErrAnd y (λ x. x ≡ f) → y ≡ Err f
finding_given f (Ok x) h = absurd h
finding_given f (Err x) h = ap Err h

pub finding_handed : {A : Type 0} (f : Finding) (y : Result A Finding) → y ≡ Err f → finding_in y ≡ f
finding_handed f y p = ap finding_in p

module _ {A : Type 0} where
  pub numbered_err : (z : Result A Finding) (g : Finding) → IfErr z (λ k. k.number ≡ 0 → ⊥) → z ≡ Err g → g.number ≡ 0 → ⊥
  numbered_err z g r p = rw p at r

  -- what was found and is handed on, and what was nothing
  module _ (f : Finding) (z : Result A Finding) (e : finding_in z ≡ cond (eqb f.number 0) legal f) where
    pub refused_found : (g : Finding) → IfErr z (λ k. k.number ≡ 0 → ⊥) → z ≡ Err g → (g ≡ f) × (f.number ≡ 0 → ⊥)
    refused_found g r p =
        let numbered = numbered_err z g r p in
        let given : g ≡ cond (eqb f.number 0) legal f = sym (ap finding_in p) ∙ e in
        by_test (eqb f.number 0)
        (λ b. let nothing : g ≡ legal = given ∙ rw b in absurd (numbered (ap number_in nothing)))
        (λ b. let same : g ≡ f = given ∙ rw b in (same, eqb-false f.number 0 b))

    pub passed_found : (u : A) → z ≡ Ok u → f.number ≡ 0
    passed_found u p =
        let given : legal ≡ cond (eqb f.number 0) legal f = sym (ap finding_in p) ∙ e in
        by_test (eqb f.number 0) (λ b. eqb-true f.number 0 b) (λ b. let same : legal ≡ f = given ∙ rw b in sym (ap number_in same))
