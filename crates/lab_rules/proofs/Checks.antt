-- The number of a LAB: 65 is asked where 60 to 64 hold. Assumes nothing.
use Prim.Native.Nat.{◌<◌}
use mathlib.Core.Path.{◌≡◌, refl, sym, ◌∙◌}
use mathlib.Core.Logic.{◌⊎◌, ⊎_elim}
use mathlib.Core.Bool.{false, cond}
use mathlib.Core.List.{List, [], ◌∷◌}
use native.Mathlib.Omega.{arith}
use lib.Dec.{eqb}
use borrow.Author.Tests.{eqb-true}
use Rattle.sheet.specs.Checks.{check, first_number}
use Rattle.exercise.specs.declared.Record.{Record}
use Rattle.sheet.proofs.Laws.{by_test}
use Rattle.sheet.proofs.Checks.{all_held, in_turn, found}
use Rattle.entries.specs.Table.{Table}
use Rattle.lab_rules.specs.Rules.{too_many_clocks, too_many_pairs, too_many_clears, too_many_synchronous, no_way, lab_rules, lab_checks, lab_number}

module _ (cs : List Record) where
  pub rules_held : first_number (lab_rules cs) ≡ 0
      → (too_many_clocks cs ≡ false) × (too_many_pairs cs ≡ false) × (too_many_clears cs ≡ false) × (too_many_synchronous cs ≡ false)
  rules_held z = let h = all_held (lab_rules cs) refl z in (h.0, h.1.0, h.1.1.0, h.1.1.1.0)

  pub rules_low : first_number (lab_rules cs) < 65
  rules_low = found (λ n. n < 65) (omega arith) (lab_rules cs) (omega arith, (omega arith, (omega arith, (omega arith, (omega arith, tt)))))

module _ (t : Table) (cs : List Record) where
  -- 65 is asked where 60 to 64 hold
  pub number_is : lab_number t cs ≡ cond (eqb (first_number (lab_rules cs)) 0) (cond (no_way t cs) 65 0) (first_number (lab_rules cs))
  unfolding lab_number
  number_is = in_turn (lab_rules cs) (check 65 (no_way t cs) ∷ []) refl

  -- the list check's 18 is no number of a LAB's rules
  pub not_18 : lab_number t cs ≡ 18 → ⊥
  unfolding lab_number
  not_18 =
      found (λ n. n ≡ 18 → ⊥) (λ q. omega arith) (lab_checks t cs)
      (λ q. omega arith, (λ q. omega arith, (λ q. omega arith, (λ q. omega arith, (λ q. omega arith, (λ q. omega arith, tt))))))

  pub lab_low : lab_number t cs < 66
  unfolding lab_number
  lab_low = found (λ n. n < 66) (omega arith) (lab_checks t cs) (omega arith, (omega arith, (omega arith, (omega arith, (omega arith, (omega arith, tt))))))

  -- a LAB that is legal or has no way keeps 60 to 64
  pub rules_kept : (lab_number t cs ≡ 0) ⊎ (lab_number t cs ≡ 65) → first_number (lab_rules cs) ≡ 0
  rules_kept h = by_test (eqb (first_number (lab_rules cs)) 0) (λ e. eqb-true (first_number (lab_rules cs)) 0 e) (λ e. other (rw e at number_is))
    where
      other : lab_number t cs ≡ first_number (lab_rules cs) → first_number (lab_rules cs) ≡ 0
      other q = ⊎_elim (λ z. sym q ∙ z) (λ z. absurd (omega (arith, rules_low cs, sym q ∙ z))) h
