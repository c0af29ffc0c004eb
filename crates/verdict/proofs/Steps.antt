-- One law for each way out of a function: the lowest cell of a LAB, a number in a list, the culprit. Assumes nothing.
use Prim.Native.Nat.{ℕ, suc, ◌+◌, ◌-◌, ◌≤◌, ◌<◌}
use native.Mathlib.Numerals.{add-one}
use native.Mathlib.Omega.{arith}
use mathlib.Core.Path.{◌≡◌, sym, ap, ◌∙◌}
use mathlib.Core.List.{List}
use lib.Dec.{eqb}
use borrow.Author.Tests.{eq-eqb, ne_eqb}
use Rattle.sheet.specs.Lists.{filterb, from}
use Rattle.sheet.specs.Checks.{NONE}
use Rattle.answer.specs.Answer.{place_start}
use Rattle.placing.specs.Places.{lab_at}
use Rattle.placing.specs.Members.{members}
use Rattle.verdict.specs.declared.Fault.{Fault}
use Rattle.verdict.specs.declared.Finding.{Finding}
use Rattle.verdict.specs.declared.Part.{Part}
use Rattle.verdict.specs.Numbers.{fault_of}
use Rattle.verdict.specs.Verdicts.{of_exercise, of_answer, first_or, lowest_in, culprit_at, culprit_of}

-- ---- the lowest cell of a LAB: none of the cells below i stands there
pub record Lowest (a : List ℕ) (n l i : ℕ) : Type 0 where
  pub within : i ≤ n
  pub same : lowest_in a n l ≡ first_or NONE (filterb (λ j. eqb (lab_at a j) l) (from i (n - i)))

pub lowest_starts : (a : List ℕ) (n l : ℕ) → Lowest a n l 0
unfolding lowest_in members
lowest_starts a n l =
    let all : n - 0 ≡ n = omega arith in
    record { within = omega arith; same = rw all }

module _ (a : List ℕ) (n l i : ℕ) (s : Lowest a n l i) where
  pub lowest_goes : (m : ℕ) → i < n → m ≡ lab_at a i → (m ≡ l → ⊥) → Lowest a n l (i + 1)
  lowest_goes m h e d =
      let more : n - i ≡ suc (n - (i + 1)) = omega arith in
      record { within = omega arith; same = s.same ∙ rw (more, ne_eqb (lab_at a i) l (λ z. d (e ∙ z)), add-one) }

  pub lowest_stops : (m : ℕ) → i < n → m ≡ lab_at a i → m ≡ l → i ≡ lowest_in a n l
  lowest_stops m h e k =
      let more : n - i ≡ suc (n - (i + 1)) = omega arith in
      sym (s.same ∙ rw (more, eq-eqb (lab_at a i) l (sym e ∙ k)))

  pub lowest_ends : n ≤ i → NONE ≡ lowest_in a n l
  lowest_ends h =
      let none : n - i ≡ 0 = omega arith in
      sym (s.same ∙ rw none)

pub ruleset lowest_steps = (lowest_starts, lowest_goes, lowest_stops, lowest_ends)

-- ---- the culprit
pub exercise_start : (x y : ℕ) {r : Part} → r ≡ of_exercise 0 x → x ≡ y → r ≡ of_exercise 0 y
exercise_start x y h q = rw (← q) h

pub answer_start : (x y : ℕ) {r : Part} → r ≡ of_answer 0 x → x ≡ y → r ≡ of_answer 0 y
answer_start x y h q = rw (← q) h

pub place_lowest : (a : List ℕ) (n c m l : ℕ) {r : Part} → r ≡ of_answer (place_start m) 4 → m ≡ lowest_in a c l → c ≡ n → r ≡ of_answer (place_start (lowest_in a n l)) 4
place_lowest a n c m l h k q = h ∙ rw (k, q)

pub culprit_is : (e a : List ℕ) (f : Finding) (k m : Fault) {r : Part} → k ≡ fault_of f.number → k ≡ m → r ≡ culprit_at e a f m → r ≡ culprit_of e a f
unfolding culprit_of
culprit_is e a f k m h q p = p ∙ ap (culprit_at e a f) (sym q ∙ h)

pub ruleset culprit_steps = (exercise_start, answer_start, place_lowest, culprit_is)
