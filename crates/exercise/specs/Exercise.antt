-- The exercise's header: "`LXE`, version 1 (16 bits), net count (16), cell count (16), then 24 bytes a cell". Assumes nothing.
use Rattle.std.specs.Prelude.{ℕ, ◌+◌, ◌*◌, Bool, not, ◌||◌, List, [], ◌∷◌, length, eqb, ltb}
use Rattle.sheet.specs.Bytes.{u16_at, part_at}
use Rattle.sheet.specs.Checks.{Check, check, first_number}
use Rattle.sheet.specs.Header.{wrong_mark, wrong_version}

abbrev pub net_count : List ℕ → ℕ
net_count e = u16_at e 5

abbrev pub cell_count : List ℕ → ℕ
cell_count e = u16_at e 7

-- where the record of cell i begins
abbrev pub record_start : ℕ → ℕ
record_start i = 9 + 24 * i

-- the record of cell i
abbrev pub record_part : List ℕ → ℕ → List ℕ
record_part e i = part_at e (record_start i) 24

-- "Nets at most 1,024, cells at most 512"
unfoldable pub over_limit : List ℕ → Bool
over_limit e = ltb 1024 (net_count e) || ltb 512 (cell_count e)

unfoldable pub wrong_exercise_length : List ℕ → Bool
wrong_exercise_length e = not (eqb (length e) (record_start (cell_count e)))

-- 10: "exercise under 9 bytes"; 11, 12: "mark wrong; version not 1"; 13: "a count over its limit"; 14: "length is not 9 + 24 × cells"
abbrev pub exercise_checks : List ℕ → List Check
exercise_checks e =
    check 10 (ltb (length e) 9)
    ∷ check 11 (wrong_mark 69 e)
    ∷ check 12 (wrong_version e)
    ∷ check 13 (over_limit e)
    ∷ check 14 (wrong_exercise_length e)
    ∷ []

-- the number of 10 to 14 that applies, or 0
unfoldable pub exercise_number : List ℕ → ℕ
exercise_number e = first_number (exercise_checks e)
