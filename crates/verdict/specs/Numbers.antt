-- What a verdict number means: the numbers of document 01, M-102 and M-106 by where the fault lies, and those that name no apprentice. A list says which
-- numbers there are, not the order of checking. Assumes nothing.
use Rattle.std.specs.Prelude.{ℕ, cond, List, [], ◌∷◌, ◌++◌}
use Rattle.sheet.specs.Lists.{elemb}
use Rattle.verdict.specs.declared.Fault.{Fault}
use Rattle.verdict.specs.declared.Fault.TheVariants.{Call, ExerciseHead, Record, AnswerHead, Place, Lab}

-- the route buffer, and M-106's list of tries
abbrev pub call_numbers : List ℕ
call_numbers = 1 ∷ 3 ∷ []

-- M-102, the settings sheet
abbrev pub settings_numbers : List ℕ
settings_numbers = 70 ∷ 71 ∷ 72 ∷ 73 ∷ 74 ∷ 75 ∷ []

-- "10 to 14"
abbrev pub exercise_head_numbers : List ℕ
exercise_head_numbers = 10 ∷ 11 ∷ 12 ∷ 13 ∷ 14 ∷ []

-- "15, 16 and 30 to 44"
abbrev pub record_numbers : List ℕ
record_numbers = 15 ∷ 16 ∷ 30 ∷ 31 ∷ 32 ∷ 33 ∷ 34 ∷ 35 ∷ 40 ∷ 41 ∷ 42 ∷ 43 ∷ 44 ∷ []

-- "20 to 25"
abbrev pub answer_head_numbers : List ℕ
answer_head_numbers = 20 ∷ 21 ∷ 22 ∷ 23 ∷ 24 ∷ 25 ∷ []

-- "26, 50 and 51"
abbrev pub place_numbers : List ℕ
place_numbers = 26 ∷ 50 ∷ 51 ∷ []

-- "60 to 65"
abbrev pub lab_numbers : List ℕ
lab_numbers = 60 ∷ 61 ∷ 62 ∷ 63 ∷ 64 ∷ 65 ∷ []

-- "the judge's numbers 1 to 51", with 3 and 70 to 75 among them
abbrev pub numbers_to51 : List ℕ
numbers_to51 = call_numbers ++ (settings_numbers ++ (exercise_head_numbers ++ (record_numbers ++ (answer_head_numbers ++ place_numbers))))

-- every number but 0
abbrev pub refusal_numbers : List ℕ
refusal_numbers = numbers_to51 ++ lab_numbers

-- "the apprentice: 0 for numbers 1 to 23", and for 70 to 75
abbrev pub nameless_numbers : List ℕ
nameless_numbers = 1 ∷ 3 ∷ 10 ∷ 11 ∷ 12 ∷ 13 ∷ 14 ∷ 15 ∷ 16 ∷ 20 ∷ 21 ∷ 22 ∷ 23 ∷ 70 ∷ 71 ∷ 72 ∷ 73 ∷ 74 ∷ 75 ∷ []

-- where the fault of a number lies: for 0, 1, 3 and 70 to 75 in neither exercise nor answer
unfoldable pub fault_of : ℕ → Fault
fault_of n =
    cond (elemb n exercise_head_numbers) ExerciseHead
    (cond (elemb n record_numbers) Record
    (cond (elemb n answer_head_numbers) AnswerHead
    (cond (elemb n place_numbers) Place
    (cond (elemb n lab_numbers) Lab
    Call))))

-- M-106: the list of tries is "written on verdicts 0 and 65"
abbrev pub searched_numbers : List ℕ
searched_numbers = 0 ∷ 65 ∷ []
