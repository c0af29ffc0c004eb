-- A place's bytes as the code stores them: what does not fit a byte is cut; and the size of a record of each sort. Assumes nothing.
use Rattle.std.specs.Prelude.{ℕ, ◌≡◌, refl, Bool, ◌||◌, List, [], ◌∷◌, ◌++◌, length, get_or, ltb}
use Rattle.sheet.specs.Lists.{concat_map}
use Rattle.sheet.specs.Bytes.{low_byte, u16_bytes}
use Rattle.exercise.specs.Record.{record_bytes}
use Rattle.writer.specs.Answers.{Placement, answer_head}

-- the three numbers cut to bytes, and a zero
unfoldable pub cut_bytes : List ℕ → List ℕ
cut_bytes p = low_byte (get_or p 0 0) ∷ low_byte (get_or p 1 0) ∷ low_byte (get_or p 2 0) ∷ 0 ∷ []

-- a cell's record is 24 bytes, a place's is four
pub record_size : (c : List ℕ) → length (record_bytes c) ≡ 24
unfolding record_bytes
record_size c = refl

pub cut_size : (p : List ℕ) → length (cut_bytes p) ≡ 4
unfolding cut_bytes
cut_size p = refl

-- the sheet of such places
unfoldable pub cut_sheet : Placement → List ℕ
cut_sheet x = answer_head x.apprentice (length x.places) ++ concat_map cut_bytes x.places

-- x, y or LE is out of range
unfoldable pub off_board : List ℕ → Bool
off_board p = ltb 31 (get_or p 0 0) || ltb 31 (get_or p 1 0) || ltb 15 (get_or p 2 0)

-- the first five bytes of a sheet: the mark with this third letter, and a version
unfoldable pub mark_bytes : ℕ → ℕ → List ℕ
mark_bytes third version = 76 ∷ 88 ∷ third ∷ u16_bytes version
