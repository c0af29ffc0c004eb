-- Request M-100, "Write the sheets as well": what every writer answers, and what it leaves in the lent buffer. Assumes nothing.
use Rattle.std.specs.Prelude.{ℕ, cond, List, ◌++◌, length, drop, eqb, Result, Ok, Err}
use Rattle.sheet.specs.declared.refusal.Refusal.{Refusal}
use Rattle.sheet.specs.Refusals.{number_of}

-- what a writer answers
pub record Written : Type 0 where
  pub number : ℕ
  pub length : ℕ

-- a length with no refusal, or a refusal with no length
abbrev pub written_from : Result ℕ Refusal → Written
written_from (Ok size) = record { number = 0; length = size }
written_from (Err r) = record { number = number_of r; length = 0 }

-- a refusal's number and no length, or 0 and the length of the sheet
abbrev pub told : ℕ → List ℕ → Written
told number sheet = record { number = number; length = cond (eqb number 0) (length sheet) 0 }

-- the buffer at exit: the sheet, and "Bytes past the sheet stay"; after a refusal "the buffer is then unchanged"
abbrev pub buffer_after : ℕ → List ℕ → List ℕ → List ℕ
buffer_after number sheet lent = cond (eqb number 0) (sheet ++ drop (length sheet) lent) lent
