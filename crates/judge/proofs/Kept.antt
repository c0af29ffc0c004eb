-- What checks 1 to 51 leave, where they all hold: sheets of the right length, few nets, whole records, places in range that no two cells of a
-- kind share, and cells that keep 30 to 44. Assumes nothing.
use Prim.Native.Nat.{ℕ, ◌≤◌, ◌<◌}
use mathlib.Core.Path.{◌≡◌, ◌∙◌}
use mathlib.Core.Bool.{false}
use mathlib.Core.List.{List, ◌++◌}
use native.Mathlib.Omega.{arith}
use lib.ListN.{length}
use lib.Dec.{ltb}
use borrow.Author.Tests.{eqb-true, ltb-false, not-false}
use Rattle.sheet.specs.Checks.{first_number, NONE}
use Rattle.exercise.specs.Exercise.{net_count, cell_count, record_start, over_limit, wrong_exercise_length}
use Rattle.settings.specs.Settings.{settings_checks, settings_number}
use Rattle.answer.specs.Answer.{place_count, place_start, wrong_answer_length}
use Rattle.exercise.specs.Record.{is_malformed}
use Rattle.sheet.proofs.Laws.{or_parts}
use Rattle.tables.specs.Records.{cell, malformed}
use Rattle.netlist.specs.Cells.{cell_checks}
use Rattle.placing.specs.Places.{out_of_range_at, place_taken}
use Rattle.judge.specs.Call.{Call}
use Rattle.judge.specs.Judge.{of_cell, settings_group, exercise_group, answer_group, cell_group, place_group, checks_to51}
use Rattle.judge.specs.Demands.{AllHold}
use Rattle.judge.proofs.Broken.{held, hold_append}
use Rattle.judge.proofs.Groups.{exercise_head, record_run, driver_run, answer_head, range_run, shared_run, carry_run}
use Rattle.judge.proofs.Held.{hold_each, hold_run, hold_number, HeldGroups, held_groups}

-- ---- the lengths of the sheets
-- 14
pub exercise_length : (e : List ℕ) → AllHold (exercise_head e) → length e ≡ record_start (cell_count e)
unfolding wrong_exercise_length
exercise_length e h = eqb-true (length e) (record_start (cell_count e)) (not-false _ (held 14 (exercise_head e) h))

-- 24 and 25
pub answer_length : (e a : List ℕ) → AllHold (answer_head e a) → length a ≡ place_start (cell_count e)
unfolding wrong_answer_length
answer_length e a h =
    let same = eqb-true (place_count a) (cell_count e) (not-false _ (held 24 (answer_head e a) h)) in
    eqb-true (length a) (place_start (place_count a)) (not-false _ (held 25 (answer_head e a) h)) ∙ rw same

module _ (e a : List ℕ) where
  pub exercise_parts : AllHold (exercise_group e) → AllHold (exercise_head e) × AllHold (record_run e ++ driver_run e)
  unfolding exercise_group
  exercise_parts h = hold_append (exercise_head e) (record_run e ++ driver_run e) h

  pub answer_parts : AllHold (answer_group e a) → AllHold (answer_head e a) × AllHold (range_run e a)
  unfolding answer_group
  answer_parts h = hold_append (answer_head e a) (range_run e a) h

-- 70 to 75
pub settings_passed : (c : Call) → AllHold (checks_to51 c) → settings_number c.settings ≡ 0
unfolding settings_group settings_number
settings_passed c h = hold_number NONE (settings_checks c.settings) (held_groups c h).settings

-- ---- what 13, 15, 26, 30 to 44 and 50 leave
pub record Kept (e a : List ℕ) : Type 0 where
  pub few : net_count e ≤ 1024
  pub whole : (i : ℕ) → i < cell_count e → is_malformed (cell e i) ≡ false
  pub placed : (i : ℕ) → i < cell_count e → out_of_range_at a i ≡ false
  pub keeps : (i : ℕ) → i < cell_count e → first_number (cell_checks e i) ≡ 0
  pub alone : (i : ℕ) → i < cell_count e → place_taken e a i ≡ false

module _ (c : Call) (holds : AllHold (checks_to51 c)) where
  abbrev e : List ℕ
  e = c.exercise

  abbrev a : List ℕ
  a = c.answer

  groups : HeldGroups c
  groups = held_groups c holds

  few_nets : net_count e ≤ 1024
  unfolding exercise_group over_limit
  few_nets = ltb-false 1024 (net_count e) (or_parts (ltb 1024 (net_count e)) (ltb 512 (cell_count e)) (held 13 (exercise_group e) groups.exercise)).0

  -- 15
  whole_cells : (i : ℕ) → i < cell_count e → is_malformed (cell e i) ≡ false
  unfolding malformed
  whole_cells i l =
      let h = hold_append (record_run e) (driver_run e) (exercise_parts e a groups.exercise).1 in
      hold_run 15 (malformed e) (cell_count e) 0 i h.0 (omega arith) (omega arith)

  -- 26
  pub places_held : (i : ℕ) → i < cell_count e → out_of_range_at a i ≡ false
  places_held i l = hold_run 26 (out_of_range_at a) (cell_count e) 0 i (answer_parts e a groups.answer).1 (omega arith) (omega arith)

  -- 30 to 44
  cells_keep : (i : ℕ) → i < cell_count e → first_number (cell_checks e i) ≡ 0
  unfolding cell_group
  cells_keep i l = hold_number i (cell_checks e i) (hold_each (λ i. of_cell i (cell_checks e i)) (cell_count e) groups.cells i l)

  -- 50
  places_free : (i : ℕ) → i < cell_count e → place_taken e a i ≡ false
  unfolding place_group
  places_free i l =
      let h = hold_append (shared_run e a) (carry_run e a) groups.places in
      hold_run 50 (place_taken e a) (cell_count e) 0 i h.0 (omega arith) (omega arith)

  pub all_kept : Kept e a
  all_kept = record { few = few_nets; whole = whole_cells; placed = places_held; keeps = cells_keep; alone = places_free }
