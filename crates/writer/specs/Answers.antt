-- Request M-100 of the answer sheet: apprentice and places in, bytes out. Assumes nothing.
use Rattle.std.specs.Prelude.{ℕ, ◌≤◌, ◌≡◌, false, List, [], ◌∷◌, ◌++◌, map, length, get_or, eqb, ltb}
use Rattle.sheet.specs.Lists.{concat_map, anyb, below, Every}
use Rattle.sheet.specs.Bytes.{u16_bytes, u32_bytes}
use Rattle.sheet.specs.Checks.{Check, check, first_number}
use Rattle.answer.specs.Answer.{apprentice, place_count, place_start, opening_number, placed_at, placed_values}
use Rattle.placing.specs.Places.{out_of_range_at}

-- what an answer sheet says: the apprentice, and each cell's place as three numbers, x, y and LE
pub record Placement : Type 0 where
  pub apprentice : ℕ
  pub places : List (List ℕ)

abbrev pub placement : ℕ → List (List ℕ) → Placement
placement apprentice places = record { apprentice = apprentice; places = places }

-- "`LXA`, version 1 (16 bits), apprentice (32 bits, not 0), cell count (16)"
unfoldable pub answer_head : ℕ → ℕ → List ℕ
answer_head apprentice total = (76 ∷ 88 ∷ 65 ∷ 1 ∷ 0 ∷ []) ++ u32_bytes apprentice ++ u16_bytes total

-- "4 bytes a cell: x, y (0 to 31), LE (0 to 15), a zero"
unfoldable pub place_bytes : List ℕ → List ℕ
place_bytes p = get_or p 0 0 ∷ get_or p 1 0 ∷ get_or p 2 0 ∷ 0 ∷ []

-- the sheet that says it
unfoldable pub answer_sheet : Placement → List ℕ
answer_sheet x = answer_head x.apprentice (length x.places) ++ concat_map place_bytes x.places

-- "Refusals: 2 when the buffer is shorter than the sheet needs, then 13 above 512 records of either sort, then the judge's number (24 isn't
-- judged)": 23, 26. `room` is the length of the buffer
abbrev pub answer_writer_checks : Placement → ℕ → List Check
answer_writer_checks x room =
    check 2 (ltb room (place_start (length x.places)))
    ∷ check 13 (ltb 512 (length x.places))
    ∷ check 23 (eqb x.apprentice 0)
    ∷ check 26 (anyb (out_of_range_at (answer_sheet x)) (below (length x.places)))
    ∷ []

-- the number that applies, or 0
unfoldable pub answer_refusal : Placement → ℕ → ℕ
answer_refusal x room = first_number (answer_writer_checks x room)

-- what a sheet says, by the definitions of the judge and the readers
unfoldable pub placement_of : List ℕ → Placement
placement_of a = placement (apprentice a) (map (λ i. placed_values (placed_at a i)) (below (place_count a)))

-- "passes .. 20 to 26 beside its exercise": 20 to 25 without 24, 26, and at most 512 places, as 13 and 24 leave of the exercise's cells
unfoldable pub AnswerPasses : List ℕ → Type 0
AnswerPasses a = (opening_number a ≡ 0) × (anyb (out_of_range_at a) (below (place_count a)) ≡ false) × (place_count a ≤ 512)

-- every place is given by three numbers
unfoldable pub ThreeEach : Placement → Type 0
ThreeEach x = Every (λ (p : List ℕ). length p ≡ 3) x.places
