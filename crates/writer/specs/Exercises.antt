-- Request M-100 of the exercise sheet: net count and cell records in, bytes out. Assumes nothing.
use Rattle.std.specs.Prelude.{ℕ, ◌+◌, ◌*◌, ◌≡◌, List, [], ◌∷◌, ◌++◌, map, length, ltb}
use Rattle.sheet.specs.Lists.{concat_map, anyb, Every}
use Rattle.sheet.specs.Bytes.{low_byte, high_byte}
use Rattle.sheet.specs.Checks.{Check, check, first_number}
use Rattle.exercise.specs.Exercise.{net_count, record_start, exercise_number}
use Rattle.exercise.specs.Record.{Cell, record_bytes, record_values}
use Rattle.tables.specs.Records.{cell, cell_numbers, malformed, double_driver}

-- what an exercise sheet says: how many nets, and each cell as twelve numbers
pub record Netlist : Type 0 where
  pub nets : ℕ
  pub cells : List Cell

abbrev pub netlist : ℕ → List Cell → Netlist
netlist nets cells = record { nets = nets; cells = cells }

-- "`LXE`, version 1 (16 bits), net count (16), cell count (16)"
unfoldable pub exercise_head : ℕ → ℕ → List ℕ
exercise_head nets total = 76 ∷ 88 ∷ 69 ∷ 1 ∷ 0 ∷ low_byte nets ∷ high_byte nets ∷ low_byte total ∷ high_byte total ∷ []

-- the sheet that says it
unfoldable pub exercise_sheet : Netlist → List ℕ
exercise_sheet x = exercise_head x.nets (length x.cells) ++ concat_map record_bytes x.cells

-- 15 and 16 of a sheet
abbrev pub record_checks : List ℕ → List Check
record_checks e = check 15 (anyb (malformed e) (cell_numbers e)) ∷ check 16 (anyb (double_driver e) (cell_numbers e)) ∷ []

unfoldable pub records_number : List ℕ → ℕ
records_number e = first_number (record_checks e)

-- "Refusals: 2 when the buffer is shorter than the sheet needs, then 13 above 512 records of either sort, then the judge's number": 13 for the
-- nets, 15, 16. `room` is the length of the buffer
abbrev pub exercise_writer_checks : Netlist → ℕ → List Check
exercise_writer_checks x room =
    check 2 (ltb room (record_start (length x.cells)))
    ∷ check 13 (ltb 512 (length x.cells))
    ∷ check 13 (ltb 1024 x.nets)
    ∷ record_checks (exercise_sheet x)

-- the number that applies, or 0
unfoldable pub exercise_refusal : Netlist → ℕ → ℕ
exercise_refusal x room = first_number (exercise_writer_checks x room)

-- thirteen values as the readers give them, kind, flag and eleven signals, as twelve numbers
abbrev pub packed : List ℕ → List ℕ
packed [] = []
packed (kind ∷ []) = []
packed (kind ∷ flag ∷ signals) = (kind + 256 * flag) ∷ signals

-- what a sheet says, by the definitions of the judge and the readers
unfoldable pub netlist_of : List ℕ → Netlist
netlist_of e = netlist (net_count e) (map (λ i. packed (record_values (cell e i))) (cell_numbers e))

-- "any sheet that passes 10 to 16"
unfoldable pub ExercisePasses : List ℕ → Type 0
ExercisePasses e = (exercise_number e ≡ 0) × (records_number e ≡ 0)

-- every cell is given by twelve numbers
unfoldable pub TwelveEach : Netlist → Type 0
TwelveEach x = Every (λ (c : List ℕ). length c ≡ 12) x.cells
