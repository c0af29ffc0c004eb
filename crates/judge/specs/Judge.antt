-- Document 01, "Verdict numbers, in the order of checking": the checks as a list, the verdict as its first broken check, the route buffer
-- and the list of tries.
-- `c` is the call; a definition that reads less of it takes what it reads: `s` the settings, `e` the exercise, `a` the answer, `r` the route
-- buffer's length, `n` that of the list of tries.
-- Assumes nothing.
use Rattle.std.specs.Prelude.{ℕ, Bool, false, cond, not, ◌&&◌, List, [], ◌∷◌, ◌++◌, map, eqb, ltb}
use Rattle.sheet.specs.Lists.{concat_map, anyb, elemb, below}
use Rattle.sheet.specs.Checks as sheet
use Rattle.exercise.specs.Exercise.{cell_count, exercise_checks}
use Rattle.answer.specs.Answer.{place_count, answer_checks, wrong_answer_length}
use Rattle.exercise.specs.declared.Record.{Record}
use Rattle.exercise.specs.declared.Record.TheVariants.{Combinational, Register, Malformed}
use Rattle.settings.specs.Settings.{settings_checks}
use Rattle.lab_rules.specs.Rules.{lab_checks, route_of, lab_tries}
use Rattle.tables.specs.Records.{cell, cell_numbers, malformed, double_driver}
use Rattle.netlist.specs.Cells.{feeds, cell_checks}
use Rattle.sheet.specs.Checks.{NONE}
use Rattle.placing.specs.Places.{lab_at, out_of_range_at, place_taken, follows}
use Rattle.placing.specs.Members.{members}
use Rattle.verdict.specs.declared.Finding.{Finding}
use Rattle.verdict.specs.declared.Verdict.{Verdict}
use Rattle.verdict.specs.Numbers.{searched_numbers}
use Rattle.verdict.specs.Verdicts.{finding, legal, verdict_of}
use Rattle.judge.specs.Call.{Call, in_force}

-- one check: what it finds, and whether it is broken
pub record Check : Type 0 where
  pub finding : Finding
  pub broken : Bool

abbrev pub check : ℕ → Bool → Check
check n b = record { finding = finding n NONE NONE; broken = b }

abbrev pub cell_check : ℕ → ℕ → Bool → Check
cell_check n i b = record { finding = finding n i NONE; broken = b }

abbrev pub lab_check : ℕ → ℕ → Bool → Check
lab_check n l b = record { finding = finding n NONE l; broken = b }

-- checks of a whole sheet, of cell i, and of LAB l, from their numbers
abbrev pub of_sheet : List sheet.Check → List Check
of_sheet ks = map (λ k. check k.number k.broken) ks

abbrev pub of_cell : ℕ → List sheet.Check → List Check
of_cell i ks = map (λ k. cell_check k.number i k.broken) ks

abbrev pub of_lab : ℕ → List sheet.Check → List Check
of_lab l ks = map (λ k. lab_check k.number l k.broken) ks

-- one check for each cell, lowest cell first
abbrev pub per_cell : ℕ → (ℕ → Bool) → List ℕ → List Check
per_cell n broken all = map (λ i. cell_check n i (broken i)) all

-- 51: "a cell fed by a cout must stand in the same LAB, one LE number higher; .."
abbrev pub stands_apart : List ℕ → List ℕ → ℕ → Record → Bool
stands_apart e a i (Combinational c) = anyb (λ j. feeds c.cin.0 (cell e j) && not (follows a j i)) (cell_numbers e)
stands_apart e a i (Register r) = false
stands_apart e a i Malformed = false

unfoldable pub carry_not_next : List ℕ → List ℕ → ℕ → Bool
carry_not_next e a i = stands_apart e a i (cell e i)

-- the cells that the answer puts into LAB l, by number
unfoldable pub lab_cells : Call → ℕ → List Record
lab_cells c l = map (cell c.exercise) (members c.answer (cell_count c.exercise) l)

-- "an occupied LAB is one where the answer sheet puts at least one cell"
unfoldable pub occupied : Call → ℕ → Bool
occupied c l = anyb (λ i. eqb (lab_at c.answer i) l) (cell_numbers c.exercise)

-- ---- the order of checking, in the groups of document 01's table

-- 1; M-106: "3 when the list isn't 1,024 long, right after 1"
unfoldable pub room_checks : ℕ → ℕ → List Check
room_checks r n = check 1 (not (eqb r 8192)) ∷ check 3 (not (eqb n 1024)) ∷ []

-- 70 to 75: "all after 1 and before 10"
unfoldable pub settings_group : List ℕ → List Check
settings_group s = of_sheet (settings_checks s)

-- 10 to 14; 15 over all cells; 16 over all cells
unfoldable pub exercise_group : List ℕ → List Check
exercise_group e = of_sheet (exercise_checks e) ++ (per_cell 15 (malformed e) (cell_numbers e) ++ per_cell 16 (double_driver e) (cell_numbers e))

-- 20 to 23; 24; 25; 26 over all cells
unfoldable pub answer_group : List ℕ → List ℕ → List Check
answer_group e a =
    of_sheet (answer_checks a)
    ++ (check 24 (not (eqb (place_count a) (cell_count e)))
    ∷ check 25 (wrong_answer_length a)
    ∷ per_cell 26 (out_of_range_at a) (cell_numbers e))

-- 30 to 44: lowest cell, then lowest number
unfoldable pub cell_group : List ℕ → List Check
cell_group e = concat_map (λ i. of_cell i (cell_checks e i)) (cell_numbers e)

-- 50 over all cells, then 51 over all cells
unfoldable pub place_group : List ℕ → List ℕ → List Check
place_group e a = per_cell 50 (place_taken e a) (cell_numbers e) ++ per_cell 51 (carry_not_next e a) (cell_numbers e)

-- 60 to 65: lowest LAB number, then lowest rule
unfoldable pub lab_group : Call → List Check
lab_group c = concat_map (λ l. of_lab l (lab_checks (in_force c) (lab_cells c l))) (below 1024)

-- 10 to 51, of exercise and answer
unfoldable pub sheet_checks : List ℕ → List ℕ → List Check
sheet_checks e a = exercise_group e ++ (answer_group e a ++ (cell_group e ++ place_group e a))

-- the "rules up to 51": "with 70 to 75 .. among" them, and 3
unfoldable pub checks_to51 : Call → List Check
checks_to51 c = room_checks c.room c.slots ++ (settings_group c.settings ++ sheet_checks c.exercise c.answer)

-- ALL CHECKS, IN THE ORDER OF CHECKING
unfoldable pub checks : Call → List Check
checks c = checks_to51 c ++ lab_group c

-- what the first broken check finds, or that none is broken
abbrev pub first_broken : List Check → Finding
first_broken [] = legal
first_broken (k ∷ ks) = let later = first_broken ks in cond k.broken k.finding later

-- ---- the verdict, the route buffer and the list of tries

-- THE VERDICT: the first broken check of the list
unfoldable pub judged : Call → Verdict
judged c = verdict_of c.exercise c.answer (first_broken (checks c))

-- "Route buffer when legal": eight bytes for each LAB, by number
unfoldable pub route_bytes : Call → List ℕ
route_bytes c = concat_map (λ l. route_of (in_force c) (lab_cells c l)) (below 1024)

-- THE ROUTE BUFFER AT EXIT of a call that was lent `before`: on a refusal as it was, else the route bytes
unfoldable pub routed : Call → List ℕ → List ℕ
routed c before = cond (eqb (judged c).number 0) (route_bytes c) before

-- M-106: the tries of LAB l; LABs "above a refused one, get 0" (a legal verdict names 65,535, which no LAB is above), and "empty LABs" have no needs
unfoldable pub tries_of : Call → ℕ → ℕ
tries_of c l = cond (ltb (judged c).lab l) 0 (lab_tries (in_force c) (lab_cells c l))

-- THE LIST OF TRIES AT EXIT of a call that was lent `before`: "written on verdicts 0 and 65 and otherwise unchanged"
unfoldable pub tried : Call → List ℕ → List ℕ
tried c before = cond (elemb (judged c).number searched_numbers) (map (tries_of c) (below 1024)) before
