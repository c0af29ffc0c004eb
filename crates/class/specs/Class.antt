-- Request M-104, "Mark the whole class at once": the class sheet, 76 and 77, and the rows. `k` is the class sheet, `s` the settings sheet, `e` the exercise. Total: a
-- byte past the end reads as 0. Assumes nothing.
use Rattle.std.specs.Prelude.{ℕ, zero, suc, ◌+◌, Bool, cond, not, List, [], ◌∷◌, ◌++◌, Result, Ok, Err, map, length, drop, eqb, ltb}
use Rattle.sheet.specs.Lists.{below}
use Rattle.sheet.specs.Bytes.{u16_at, part_at}
use Rattle.sheet.specs.Header.{wrong_mark, wrong_version}
use Rattle.sheet.specs.Checks.{Check, check, first_number}
use Rattle.sheet.specs.declared.refusal.Refusal.{Refusal}
use Rattle.sheet.specs.Refusals.{number_of}
use Rattle.judge.specs.Call.{call}
use Rattle.judge.specs.Judge.{judged}
use Rattle.verdict.specs.Verdicts.{numbers_of}

-- ---- the sheet: "`LXC`, version 1 and count, 16 bits each, count at most 32, then each answer after its own 16-bit length"

abbrev pub answer_count : List ℕ → ℕ
answer_count k = u16_at k 5

abbrev pub MOST : ℕ
MOST = 32

-- where the length of answer i stands: of the first after the head's 7 bytes, of each other after the answer before it. One past the last answer it is where
-- that one ends
unfoldable pub start_of : List ℕ → ℕ → ℕ
start_of k zero = 7
start_of k (suc i) = let at = start_of k i in at + 2 + u16_at k at

-- answer i: as many bytes as its length says, after its length
unfoldable pub answer_of : List ℕ → ℕ → List ℕ
answer_of k i = let at = start_of k i in part_at k (at + 2) (u16_at k at)

-- the answers, in order
unfoldable pub answers_on : List ℕ → List (List ℕ)
answers_on k = map (answer_of k) (below (answer_count k))

-- "whose lengths don't add up": the last answer does not end where the sheet does. No start lies before the one before it, so a length or an answer that
-- runs over the end is among these
unfoldable pub wrong_lengths : List ℕ → Bool
wrong_lengths k = not (eqb (start_of k (answer_count k)) (length k))

-- ---- the refusals: "76 for a class sheet that is short, has a wrong mark, version or count, or whose lengths don't add up; 77 for fewer rows lent than
-- answers"; "76 comes first, and both before all others". The mark's third letter is C, code 67
abbrev pub class_checks : List ℕ → ℕ → List Check
class_checks k rows =
    check 76 (ltb (length k) 7)
    ∷ check 76 (wrong_mark 67 k)
    ∷ check 76 (wrong_version k)
    ∷ check 76 (ltb MOST (answer_count k))
    ∷ check 76 (wrong_lengths k)
    ∷ check 77 (ltb rows (answer_count k))
    ∷ []

unfoldable pub refusal : List ℕ → ℕ → ℕ
refusal k rows = first_number (class_checks k rows)

-- what a call says: 0 and how many rows are filled, or a refusal and 0
pub record Marked : Type 0 where
  pub number : ℕ
  pub filled : ℕ

-- the same of a call's result
abbrev pub marked_from : Result ℕ Refusal → Marked
marked_from (Ok n) = record { number = 0; filled = n }
marked_from (Err r) = record { number = number_of r; filled = 0 }

-- what the call says: the refusal and no row, or 0 and the number of answers
unfoldable pub marked : List ℕ → ℕ → Marked
marked k rows = record { number = refusal k rows; filled = cond (eqb (refusal k rows) 0) (answer_count k) 0 }

-- ---- the rows: "one verdict row (no culprit) per answer comes out, equal to what single calls would say with a route buffer of the right size, in order"; M-106: "class rows read
-- as with a right list"

-- number, cell, LAB and apprentice of the judge's own verdict on the answer `a`
unfoldable pub row_of : List ℕ → List ℕ → List ℕ → List ℕ
row_of s e a = numbers_of (judged (call s e a 8192 1024))

unfoldable pub rows_of : List ℕ → List ℕ → List ℕ → List (List ℕ)
rows_of s e k = map (row_of s e) (answers_on k)

-- THE LENT ROWS AT EXIT: the answers' rows, and "spare rows stay"; after a refusal "the lent rows are then unchanged"
unfoldable pub rows_after : List ℕ → List ℕ → List ℕ → List (List ℕ) → List (List ℕ)
rows_after s e k lent = cond (eqb (refusal k (length lent)) 0) (rows_of s e k ++ drop (length (rows_of s e k)) lent) lent
