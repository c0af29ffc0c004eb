-- What each group of checks finds, as the stages of the code find it: the groups one after the other, and within a group its runs.
-- Assumes nothing.
use Prim.Native.Nat.{ℕ}
use native.Mathlib.Omega.{arith}
use mathlib.Core.Path.{◌≡◌, refl, ◌∙◌}
use mathlib.Core.Bool.{cond, not}
use mathlib.Core.List.{List, [], ◌∷◌, ◌++◌}
use lib.Dec.{eqb, ltb}
use borrow.Author.Tests.{eq-eqb, ne_eqb, eqb-true}
use Rattle.sheet.specs.Lists.{Every, first_from}
use Rattle.exercise.specs.Exercise.{cell_count, exercise_checks, exercise_number}
use Rattle.settings.specs.Settings.{settings_checks, settings_number}
use Rattle.answer.specs.Answer.{answer_checks, answer_number, place_count, wrong_answer_length}
use Rattle.sheet.proofs.Laws.{by_test}
use Rattle.tables.specs.Records.{cell_numbers, malformed, double_driver}
use Rattle.netlist.specs.Cells.{cell_checks, cell_number}
use Rattle.placing.specs.Places.{out_of_range_at, place_taken}
use Rattle.sheet.specs.Checks.{NONE}
use Rattle.verdict.specs.declared.Finding.{Finding}
use Rattle.judge.specs.Judge.{Check, check, of_sheet, per_cell, carry_not_next, room_checks, settings_group, exercise_group, answer_group, cell_group, place_group, sheet_checks, checks_to51, first_broken}
use Rattle.verdict.specs.Verdicts.{finding}
use Rattle.judge.specs.Call.{Call}
use Rattle.verdict.specs.Numbers.{numbers_to51}
use Rattle.judge.specs.passes.Stages.{numbered_as, numbered, at_cell}
use Rattle.judge.specs.passes.Preparing.{then}
use borrow.Author.Rules.{rules}
use Rattle.judge.proofs.Broken.{first_append, sheet_finds, run_finds, cells_find}
use Rattle.judge.proofs.Numbers.{To51, known_numbered, every_append, run_known, settings_known, exercise_known, answer_known, cells_known, cell_numbered}

-- ---- the parts of the groups: 10 to 14; 15; 16; 20 to 25; 26; 50; 51
abbrev pub exercise_head : List ℕ → List Check
exercise_head e = of_sheet (exercise_checks e)

abbrev pub record_run : List ℕ → List Check
record_run e = per_cell 15 (malformed e) (cell_numbers e)

abbrev pub driver_run : List ℕ → List Check
driver_run e = per_cell 16 (double_driver e) (cell_numbers e)

abbrev pub answer_head : List ℕ → List ℕ → List Check
answer_head e a = of_sheet (answer_checks a) ++ (check 24 (not (eqb (place_count a) (cell_count e))) ∷ check 25 (wrong_answer_length a) ∷ [])

abbrev pub range_run : List ℕ → List ℕ → List Check
range_run e a = per_cell 26 (out_of_range_at a) (cell_numbers e)

abbrev pub shared_run : List ℕ → List ℕ → List Check
shared_run e a = per_cell 50 (place_taken e a) (cell_numbers e)

abbrev pub carry_run : List ℕ → List ℕ → List Check
carry_run e a = per_cell 51 (carry_not_next e a) (cell_numbers e)

-- ---- a finding, and the next where it is nothing
pub then_stays : (f g : Finding) {r : Finding} → (f.number ≡ 0 → ⊥) → r ≡ f → r ≡ then f g
then_stays f g h e = rw (ne_eqb f.number 0 h) e

pub then_goes : (f g : Finding) {r : Finding} → f.number ≡ 0 → r ≡ g → r ≡ then f g
then_goes f g h e = rw (eq-eqb f.number 0 h) e

pub then_first : (f g : Finding) → (then f g).number ≡ 0 → f.number ≡ 0
then_first f g h =
    by_test (eqb f.number 0) (λ t. eqb-true f.number 0 t) (λ t. rw t at h)

pub then_second : (f g : Finding) → (then f g).number ≡ 0 → g.number ≡ 0
then_second f g h = let z = then_first f g h in rw (eq-eqb f.number 0 z) at h

then_assoc : (f g h : Finding) → then f (then g h) ≡ then (then f g) h
then_assoc f g h = by_test (eqb f.number 0) (λ b. rw b) (λ b. rw b (rw b))

-- of two lists in turn, where all numbers of the first are known
in_turn : (xs ys : List Check) → Every To51 xs → first_broken (xs ++ ys) ≡ then (first_broken xs) (first_broken ys)
in_turn xs ys h = first_append xs ys (known_numbered numbers_to51 refl xs h)

run_15 : (e : List ℕ) → Every To51 (record_run e)
run_15 e = run_known 15 (search rules) (malformed e) (cell_numbers e)

run_50 : (e a : List ℕ) → Every To51 (shared_run e a)
run_50 e a = run_known 50 (search rules) (place_taken e a) (cell_numbers e)

group_known : (e : List ℕ) → Every To51 (exercise_group e)
unfolding exercise_group
group_known e =
    every_append To51 (exercise_head e) (record_run e ++ driver_run e) (exercise_known e)
    (every_append To51 (record_run e) (driver_run e) (run_15 e) (run_known 16 (search rules) (double_driver e) (cell_numbers e)))

-- a run that stopped before the end has found something
pub run_then : (n : ℕ) (i k : ℕ) (g : Finding) → (n ≡ 0 → ⊥) → then (at_cell n i k) g ≡ cond (ltb i k) (finding n i NONE) g
run_then n i k g h = by_test (ltb i k) (λ b. rw (b, ne_eqb n 0 h)) (λ b. rw b)

-- 10 to 16
pub exercise_finds : (e : List ℕ) → first_broken (exercise_group e)
    ≡ then (finding (exercise_number e) NONE NONE)
    (cond (ltb (first_from (malformed e) 0 (cell_count e)) (cell_count e)) (finding 15 (first_from (malformed e) 0 (cell_count e)) NONE)
    (at_cell 16 (first_from (double_driver e) 0 (cell_count e)) (cell_count e)))
unfolding exercise_group exercise_number
exercise_finds e =
    in_turn (exercise_head e) (record_run e ++ driver_run e) (exercise_known e)
    ∙ rw (sheet_finds (exercise_checks e), in_turn (record_run e) (driver_run e) (run_15 e), run_finds 15 (malformed e) (cell_count e), run_finds 16 (double_driver e) (cell_count e), run_then 15 (first_from (malformed e) 0 (cell_count e)) (cell_count e) (at_cell 16 (first_from (double_driver e) 0 (cell_count e)) (cell_count e)) (λ z. omega arith))

sheet_known : (a : List ℕ) → Every To51 (of_sheet (answer_checks a))
sheet_known a = search rules

-- 20 to 26
pub answer_finds : (e a : List ℕ) → first_broken (answer_group e a)
    ≡ then (finding (answer_number a) NONE NONE)
    (cond (not (eqb (place_count a) (cell_count e))) (finding 24 NONE NONE)
    (cond (wrong_answer_length a) (finding 25 NONE NONE)
    (at_cell 26 (first_from (out_of_range_at a) 0 (cell_count e)) (cell_count e))))
unfolding answer_group answer_number
answer_finds e a =
    in_turn (of_sheet (answer_checks a)) (check 24 (not (eqb (place_count a) (cell_count e))) ∷ check 25 (wrong_answer_length a) ∷ range_run e a) (sheet_known a)
    ∙ rw (sheet_finds (answer_checks a), run_finds 26 (out_of_range_at a) (cell_count e))

-- 30 to 44
pub cells_finds : (e : List ℕ) → first_broken (cell_group e) ≡ numbered (cell_number e) (cell_count e)
unfolding cell_group numbered_as cell_number cell_checks
cells_finds e =
    cells_find (cell_checks e) (cell_count e)
    (cell_numbered e)

-- 50 and 51
pub places_finds : (e a : List ℕ) → first_broken (place_group e a)
    ≡ cond (ltb (first_from (place_taken e a) 0 (cell_count e)) (cell_count e)) (finding 50 (first_from (place_taken e a) 0 (cell_count e)) NONE)
    (at_cell 51 (first_from (carry_not_next e a) 0 (cell_count e)) (cell_count e))
unfolding place_group
places_finds e a =
    in_turn (shared_run e a) (carry_run e a) (run_50 e a)
    ∙ rw (run_finds 50 (place_taken e a) (cell_count e), run_finds 51 (carry_not_next e a) (cell_count e), run_then 50 (first_from (place_taken e a) 0 (cell_count e)) (cell_count e) (at_cell 51 (first_from (carry_not_next e a) 0 (cell_count e)) (cell_count e)) (λ z. omega arith))

-- 30 to 51
pub cells_places_find : (e a : List ℕ) → first_broken (cell_group e ++ place_group e a) ≡ then (first_broken (cell_group e)) (first_broken (place_group e a))
unfolding cell_group
cells_places_find e a = in_turn (cell_group e) (place_group e a) (cells_known e)

-- 70 to 75
pub settings_finds : (s : List ℕ) → first_broken (settings_group s) ≡ finding (settings_number s) NONE NONE
unfolding settings_group settings_number
settings_finds s = sheet_finds (settings_checks s)

-- 70 to 75, then 10 to 16
pub early_finds : (s e : List ℕ) → first_broken (settings_group s ++ exercise_group e) ≡ then (first_broken (settings_group s)) (first_broken (exercise_group e))
early_finds s e = in_turn (settings_group s) (exercise_group e) (settings_known s)

-- these, then 30 to 44
pub fixed_finds : (s e : List ℕ) → first_broken ((settings_group s ++ exercise_group e) ++ cell_group e)
    ≡ then (first_broken (settings_group s ++ exercise_group e)) (first_broken (cell_group e))
fixed_finds s e =
    in_turn (settings_group s ++ exercise_group e) (cell_group e)
    (every_append To51 (settings_group s) (exercise_group e) (settings_known s) (group_known e))

-- 10 to 51 and 70 to 75
sheets_find : (s e a : List ℕ) → first_broken (settings_group s ++ sheet_checks e a)
    ≡ then (first_broken (settings_group s ++ exercise_group e))
    (then (first_broken (answer_group e a)) (then (first_broken (cell_group e)) (first_broken (place_group e a))))
unfolding sheet_checks
sheets_find s e a =
    in_turn (settings_group s) (exercise_group e ++ (answer_group e a ++ (cell_group e ++ place_group e a))) (settings_known s)
    ∙ rw (in_turn (exercise_group e) (answer_group e a ++ (cell_group e ++ place_group e a)) (group_known e), in_turn (answer_group e a) (cell_group e ++ place_group e a) (answer_known e a), cells_places_find e a, early_finds s e)
    (then_assoc (first_broken (settings_group s)) (first_broken (exercise_group e)) _)

-- 1 to 51
pub to_51_finds : (c : Call) → first_broken (checks_to51 c)
    ≡ cond (not (eqb c.room 8192)) (finding 1 NONE NONE)
    (cond (not (eqb c.slots 1024)) (finding 3 NONE NONE)
    (then (first_broken (settings_group c.settings ++ exercise_group c.exercise))
    (then (first_broken (answer_group c.exercise c.answer)) (then (first_broken (cell_group c.exercise)) (first_broken (place_group c.exercise c.answer))))))
unfolding checks_to51 room_checks
to_51_finds c = rw (sheets_find c.settings c.exercise c.answer)
