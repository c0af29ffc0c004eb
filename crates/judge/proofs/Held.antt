-- A verdict is legal only if every check holds, for no check has the number 0; and how the checks of cells, of LABs and of the groups are
-- taken apart. Assumes nothing.
use Prim.Native.Nat.{ℕ, zero, suc, ◌+◌, ◌≤◌, ◌<◌}
use mathlib.Core.Path.{◌≡◌, refl}
use mathlib.Core.Logic.{⊎_elim}
use mathlib.Core.Bool.{Bool, false}
use mathlib.Core.List.{List, [], ◌∷◌, ◌++◌}
use native.Mathlib.Nat.{eq-or-lt_of_le}
use native.Mathlib.Omega.{arith}
use Rattle.sheet.specs.Lists.{concat_map, from, below}
use Rattle.sheet.specs.Checks as sheet
use Rattle.lab_rules.specs.Rules.{lab_checks}
use Rattle.judge.specs.Call.{Call, in_force}
use Rattle.judge.specs.Judge.{Check, per_cell, of_cell, of_lab, lab_cells, room_checks, settings_group, exercise_group, answer_group, cell_group, place_group, lab_group, sheet_checks, checks_to51, checks, judged}
use Rattle.verdict.specs.Verdicts.{verdict_of}
use Rattle.judge.specs.Demands.{AllHold}
use Rattle.judge.proofs.Broken as broken
use Rattle.judge.proofs.Broken.{hold_append}
use Rattle.judge.proofs.Numbers.{all_numbered}

-- ---- checks that hold
hold_from : (f : ℕ → List Check) (i k : ℕ) → AllHold (concat_map f (from i k)) → (j : ℕ) → i ≤ j → j < i + k → AllHold (f j)
hold_from f i zero h j l m = absurd (omega arith)
hold_from f i (suc k) h j l m =
    let g = hold_append (f i) (concat_map f (from (suc i) k)) h in
    ⊎_elim (λ q. rw (← q) g.0) (λ q. hold_from f (suc i) k g.1 j q (omega arith)) (eq-or-lt_of_le l)

pub hold_each : (f : ℕ → List Check) (k : ℕ) → AllHold (concat_map f (below k)) → (j : ℕ) → j < k → AllHold (f j)
hold_each f k h j l = hold_from f 0 k h j (omega arith) (omega arith)

pub hold_run : (n : ℕ) (f : ℕ → Bool) (k i j : ℕ) → AllHold (per_cell n f (from i k)) → i ≤ j → j < i + k → f j ≡ false
unfolding AllHold
hold_run n f zero i j h a b = absurd (omega arith)
hold_run n f (suc k) i j h a b = ⊎_elim (λ e. rw (← e) h.0) (λ m. hold_run n f k (suc i) j h.1 m (omega arith)) (eq-or-lt_of_le a)

pub hold_number : (i : ℕ) (ks : List sheet.Check) → AllHold (of_cell i ks) → sheet.first_number ks ≡ 0
unfolding AllHold
hold_number i [] h = refl
hold_number i (k ∷ ks) h = rw h.0 (hold_number i ks h.1)

-- ---- the groups of checks 1 to 51
pub record HeldGroups (c : Call) : Type 0 where
  pub settings : AllHold (settings_group c.settings)
  pub exercise : AllHold (exercise_group c.exercise)
  pub answer : AllHold (answer_group c.exercise c.answer)
  pub cells : AllHold (cell_group c.exercise)
  pub places : AllHold (place_group c.exercise c.answer)

pub held_groups : (c : Call) → AllHold (checks_to51 c) → HeldGroups c
unfolding checks_to51 sheet_checks
held_groups c h =
    let e = c.exercise in
    let a = c.answer in
    let after-room = (hold_append (room_checks c.room c.slots) (settings_group c.settings ++ (exercise_group e ++ (answer_group e a ++ (cell_group e ++ place_group e a)))) h).1 in
    let settings = hold_append (settings_group c.settings) (exercise_group e ++ (answer_group e a ++ (cell_group e ++ place_group e a))) after-room in
    let exercise = hold_append (exercise_group e) (answer_group e a ++ (cell_group e ++ place_group e a)) settings.1 in
    let answer = hold_append (answer_group e a) (cell_group e ++ place_group e a) exercise.1 in
    let cells = hold_append (cell_group e) (place_group e a) answer.1 in
    record { settings = settings.0; exercise = exercise.0; answer = answer.0; cells = cells.0; places = cells.1 }

-- ---- a legal verdict
module _ (c : Call) (legal : (judged c).number ≡ 0) where
  pub legal_hold : AllHold (checks c)
  unfolding judged verdict_of
  legal_hold = broken.legal_hold (checks c) (all_numbered c) legal

  parts : AllHold (checks_to51 c) × AllHold (lab_group c)
  unfolding checks
  parts = hold_append (checks_to51 c) (lab_group c) legal_hold

  pub to_51_holds : AllHold (checks_to51 c)
  to_51_holds = parts.0

  pub lab_holds : (l : ℕ) → l < 1024 → AllHold (of_lab l (lab_checks (in_force c) (lab_cells c l)))
  unfolding lab_group
  lab_holds l h = hold_each (λ l. of_lab l (lab_checks (in_force c) (lab_cells c l))) 1024 parts.1 l h
