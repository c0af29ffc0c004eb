-- What a verdict says of what was found, and the part of a sheet that is at fault: document 01, "An answer holds the number, ...". `e` is the exercise, `a` the answer.
-- Assumes nothing.
use Rattle.std.specs.Prelude.{ℕ, min, true, false, cond, List, [], ◌∷◌, length, Result, Ok, Err}
use Rattle.sheet.specs.Lists.{elemb}
use Rattle.sheet.specs.Checks.{NONE}
use Rattle.sheet.specs.Refusals.{number_of}
use Rattle.sheet.specs.Bytes.{part_at, begins_at}
use Rattle.exercise.specs.Exercise.{cell_count, record_start}
use Rattle.answer.specs.Answer.{apprentice, place_start}
use Rattle.placing.specs.Members.{members}
use Rattle.verdict.specs.declared.Fault.{Fault}
use Rattle.verdict.specs.declared.Fault.TheVariants as fault
use Rattle.verdict.specs.declared.Broken.{Broken}
use Rattle.verdict.specs.declared.Broken.TheVariants as broken
use Rattle.verdict.specs.declared.Finding.{Finding}
use Rattle.verdict.specs.declared.Part.{Part}
use Rattle.verdict.specs.declared.Verdict.{Verdict}
use Rattle.verdict.specs.Numbers.{nameless_numbers, fault_of}

-- what a verdict says first: the number, the cell, the LAB, NONE ("65,535") "where there is none"
abbrev pub finding : ℕ → ℕ → ℕ → Finding
finding n i l = record { number = n; cell = i; lab = l }

abbrev pub legal : Finding
legal = finding 0 NONE NONE

-- what a broken rule finds: its number, with the cell or the LAB that it refuses
abbrev pub finding_of : Broken → Finding
finding_of (broken.Sheet r) = finding (number_of r) NONE NONE
finding_of (broken.Cell r i) = finding (number_of r) i.0 NONE
finding_of (broken.Lab r l) = finding (number_of r) NONE l

-- what an outcome finds
abbrev pub found : {A : Type 0} → Result A Broken → Finding
found (Ok x) = legal
found (Err b) = finding_of b

-- "the apprentice: 0 for numbers 1 to 23, otherwise the number on the answer sheet"; M-102: 70 to 75 "with apprentice 0"
unfoldable pub apprentice_of : List ℕ → ℕ → ℕ
apprentice_of a n = cond (elemb n nameless_numbers) 0 (apprentice a)

abbrev pub of_exercise : ℕ → ℕ → Part
of_exercise start size = record { of_answer = false; start = start; size = size }

abbrev pub of_answer : ℕ → ℕ → Part
of_answer start size = record { of_answer = true; start = start; size = size }

-- the lowest cell of LAB l
abbrev pub first_or : ℕ → List ℕ → ℕ
first_or d [] = d
first_or d (x ∷ xs) = x

unfoldable pub lowest_in : List ℕ → ℕ → ℕ → ℕ
lowest_in a n l = first_or NONE (members a n l)

-- "the culprit, a part of whichever of the two lent sheets is at fault"
abbrev pub culprit_at : List ℕ → List ℕ → Finding → Fault → Part
-- "for 0 and 1 the empty part at the answer's end"; M-102: 70 to 75 with "the culprit of 1"; M-106: 3, "culprit as for 1"
culprit_at e a f fault.Call = of_answer (length a) 0
-- "for 10 to 14 the first 9 bytes of the exercise (all of them if fewer)"
culprit_at e a f fault.ExerciseHead = of_exercise 0 (min 9 (length e))
-- "for 15, 16 and 30 to 44 that cell's exercise record"
culprit_at e a f fault.Record = of_exercise (record_start f.cell) 24
-- "for 20 to 25 the first 11 bytes of the answer (or all)"
culprit_at e a f fault.AnswerHead = of_answer 0 (min 11 (length a))
-- "for 26, 50 and 51 that cell's answer record"
culprit_at e a f fault.Place = of_answer (place_start f.cell) 4
-- "for 60 to 65 the answer record of the lowest cell in that LAB"
culprit_at e a f fault.Lab = of_answer (place_start (lowest_in a (cell_count e) f.lab)) 4

unfoldable pub culprit_of : List ℕ → List ℕ → Finding → Part
culprit_of e a f = culprit_at e a f (fault_of f.number)

unfoldable pub verdict_of : List ℕ → List ℕ → Finding → Verdict
verdict_of e a f = record {
  number = f.number;
  cell = f.cell;
  lab = f.lab;
  apprentice = apprentice_of a f.number;
  culprit = culprit_of e a f;
}

-- the bytes of the culprit
unfoldable pub bytes_of : List ℕ → List ℕ → Part → List ℕ
bytes_of e a p = cond p.of_answer (part_at a p.start p.size) (part_at e p.start p.size)

-- the address at which the culprit begins: in the sheet that it is a part of, where the exercise and the answer begin at `e` and `a`
unfoldable pub address_of : ℕ × ℕ → ℕ × ℕ → Part → ℕ × ℕ
address_of e a p = begins_at (cond p.of_answer a e) p.start

-- the four numbers of a verdict
abbrev pub numbers_of : Verdict → List ℕ
numbers_of v = v.number ∷ v.cell ∷ v.lab ∷ v.apprentice ∷ []
