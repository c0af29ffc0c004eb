-- A class sheet said the other way round, as the sheet of a list of answers: it is read as these answers, and every sheet that passes 76 is one. Assumes nothing.
use Rattle.std.specs.Prelude.{ℕ, ◌≤◌, ◌<◌, ◌≡◌, List, ◌∷◌, ◌++◌, length}
use Rattle.sheet.specs.Lists.{Every, concat_map}
use Rattle.sheet.specs.Bytes.{u16_bytes, AllBytes}
use Rattle.class.specs.Class.{MOST, answers_on, refusal}

-- "then each answer after its own 16-bit length"
abbrev pub after_length : List ℕ → List ℕ
after_length a = u16_bytes (length a) ++ a

-- "`LXC`, version 1 and count, 16 bits each", then the answers
unfoldable pub class_sheet : List (List ℕ) → List ℕ
class_sheet answers = 76 ∷ 88 ∷ 67 ∷ (u16_bytes 1 ++ (u16_bytes (length answers) ++ concat_map after_length answers))

pub record ClassSheets : Type 0 where
  -- at most 32 answers of bytes, whose lengths 16 bits can hold, have a sheet of bytes
  pub are_bytes : (answers : List (List ℕ)) → length answers ≤ MOST → Every (λ a. (length a < 65536) × AllBytes a) answers → AllBytes (class_sheet answers)
  -- their sheet passes where there are rows enough, and is read as these answers
  pub reads_back : (answers : List (List ℕ)) → length answers ≤ MOST
      → (refusal (class_sheet answers) (length answers) ≡ 0) × (answers_on (class_sheet answers) ≡ answers)
  -- bytes that pass are the sheet of the answers that are read from them
  pub packed_again : (k : List ℕ) (rows : ℕ) → AllBytes k → refusal k rows ≡ 0 → k ≡ class_sheet (answers_on k)
