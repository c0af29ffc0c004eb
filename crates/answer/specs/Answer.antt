-- The answer: "`LXA`, version 1 (16 bits), apprentice (32 bits, not 0), cell count (16), then 4 bytes a cell". Assumes nothing.
use Rattle.std.specs.Prelude.{ℕ, ◌+◌, ◌*◌, Bool, cond, not, ◌||◌, List, [], ◌∷◌, Option, Some, None, length, eqb, ltb}
use Rattle.sheet.specs.Bytes.{byte_at, u16_at, u32_at, part_at}
use Rattle.sheet.specs.Checks.{Check, check, first_number}
use Rattle.sheet.specs.Header.{wrong_mark, wrong_version}
use Rattle.answer.specs.declared.Place.{Place}

-- read from the answer sheet only
abbrev pub apprentice : List ℕ → ℕ
apprentice a = u32_at a 5

abbrev pub place_count : List ℕ → ℕ
place_count a = u16_at a 9

-- where the place of cell i begins
abbrev pub place_start : ℕ → ℕ
place_start i = 11 + 4 * i

-- the place record of cell i
abbrev pub place_part : List ℕ → ℕ → List ℕ
place_part a i = part_at a (place_start i) 4

-- 20 to 22: "answer under 11 bytes; mark; version"; 23: "apprentice is 0"
abbrev pub answer_checks : List ℕ → List Check
answer_checks a =
    check 20 (ltb (length a) 11)
    ∷ check 21 (wrong_mark 65 a)
    ∷ check 22 (wrong_version a)
    ∷ check 23 (eqb (apprentice a) 0)
    ∷ []

-- 25: "length is not 11 + 4 × cells"
unfoldable pub wrong_answer_length : List ℕ → Bool
wrong_answer_length a = not (eqb (length a) (place_start (place_count a)))

-- the number of 20 to 23 that applies, or 0
unfoldable pub answer_number : List ℕ → ℕ
answer_number a = first_number (answer_checks a)

-- the number of 20 to 25 without 24 that applies, or 0
unfoldable pub opening_number : List ℕ → ℕ
opening_number a = cond (eqb (answer_number a) 0) (first_number (check 25 (wrong_answer_length a) ∷ [])) (answer_number a)

-- 26: "x, y, LE or the zero byte out of range"; "x, y (0 to 31), LE (0 to 15), a zero"
abbrev pub out_of_range : List ℕ → Bool
out_of_range p = ltb 31 (byte_at p 0) || ltb 31 (byte_at p 1) || ltb 15 (byte_at p 2) || not (eqb (byte_at p 3) 0)

-- a part is not 4 bytes long, or out of range
abbrev pub breaks_place : List ℕ → Bool
breaks_place p = not (eqb (length p) 4) || out_of_range p

-- x, y and LE of a part, as three numbers
abbrev pub place_fields : List ℕ → List ℕ
place_fields p = byte_at p 0 ∷ byte_at p 1 ∷ byte_at p 2 ∷ []

-- what a place record says, none where it is out of range. A part that is not 4 bytes long is no place
unfoldable pub placed_of : List ℕ → Option Place
placed_of p =
    cond (not (eqb (length p) 4)) None
    (cond (out_of_range p) None
    (Some (record { x = byte_at p 0; y = byte_at p 1; le = byte_at p 2 })))

-- where the answer puts cell i
unfoldable pub placed_at : List ℕ → ℕ → Option Place
placed_at a i = placed_of (place_part a i)

-- x, y and LE of a place
abbrev pub place_values : Place → List ℕ
place_values p = p.x ∷ p.y ∷ p.le ∷ []

-- document 01's number for each case of a place record, 0 for a place: 26, "x, y, LE or the zero byte out of range"
abbrev pub placed_number : Option Place → ℕ
placed_number (Some p) = 0
placed_number None = 26

-- its values for each case: those of the place, none where it is out of range
abbrev pub placed_values : Option Place → List ℕ
placed_values (Some p) = place_values p
placed_values None = []
