-- Verdicts and what the readers give as numbers, as C receives them. Assumes nothing.
use Rattle.std.specs.Prelude.{ℕ, cond, List, [], ◌∷◌, replicate}
use Rattle.answer.specs.Answer.{place_values}
use Rattle.reader.specs.declared.Step.{Step}
use Rattle.reader.specs.declared.Step.TheVariants as step
use Rattle.reader.specs.Reader.{ExerciseStep, AnswerStep, logic_cell_values}
use Rattle.verdict.specs.declared.Verdict.{Verdict}

-- number, cell, LAB, apprentice, and where the culprit stands: 0 for the exercise or 1 for the answer, its first byte, its length
abbrev pub seven_numbers : Verdict → List ℕ
seven_numbers v =
    v.number
    ∷ v.cell
    ∷ v.lab
    ∷ v.apprentice
    ∷ cond v.culprit.of_answer 1 0
    ∷ v.culprit.start
    ∷ v.culprit.size
    ∷ []

-- whether a record was given: 0 it was, 1 it breaks its layout, 2 there is none
abbrev pub step_told : {T : Type 0} → Step T → ℕ
step_told (step.Record x) = 0
step_told step.Broken = 1
step_told step.End = 2

abbrev pub cell_told : ExerciseStep → ℕ
cell_told s = step_told s

abbrev pub place_told : AnswerStep → ℕ
place_told s = step_told s

-- "kind, flag, eleven signals", as in the record; zeros where none was given
abbrev pub cell_fields : ExerciseStep → List ℕ
cell_fields (step.Record c) = logic_cell_values c
cell_fields step.Broken = replicate 13 0
cell_fields step.End = replicate 13 0

-- the same of an answer: x, y and LE, zeros where no place was given
abbrev pub place_fields : AnswerStep → List ℕ
place_fields (step.Record p) = place_values p
place_fields step.Broken = replicate 3 0
place_fields step.End = replicate 3 0
