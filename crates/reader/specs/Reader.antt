-- What a reader gives at the number of a record, and where it goes on: "A reader that holds on to its sheet and gives the next record
-- ..; at the end, or at a record that breaks its layout, it says so and stays put". Assumes nothing.
use Rattle.std.specs.Prelude.{ℕ, zero, suc, ◌+◌, Bool, true, false, cond, List, [], ◌∷◌, map, leb, Option, Some, None}
use Rattle.sheet.specs.Lists.{below}
use Rattle.exercise.specs.Exercise.{net_count, cell_count}
use Rattle.exercise.specs.Record.{record_at, record_number, record_values, combinational_values, register_values}
use Rattle.answer.specs.Answer.{place_count, placed_at, placed_number, placed_values, place_values}
use Rattle.exercise.specs.declared.Record.{Record}
use Rattle.exercise.specs.declared.Record.TheVariants as Kind
use Rattle.answer.specs.declared.Place.{Place}
use Rattle.reader.specs.declared.LogicCell.{LogicCell}
use Rattle.reader.specs.declared.LogicCell.TheVariants as Cell
use Rattle.reader.specs.declared.Step.{Step}
use Rattle.reader.specs.declared.Step.TheVariants as Where

-- ---- a sheet with so many records, each of which says something or, where it breaks its layout, nothing

module _ {A : Type 0} where
  -- what a reader gives for a record
  abbrev pub given : Option A → Step A
  given (Some x) = Where.Record x
  given None = Where.Broken

  -- the number after a record: the same if the record breaks its layout
  abbrev pub after : Option A → ℕ → ℕ
  after (Some x) at = at + 1
  after None at = at

  -- the reader says the end or a broken record, and so stays put
  abbrev pub stays : Step A → Bool
  stays (Where.Record x) = false
  stays Where.Broken = true
  stays Where.End = true

  -- a step, and what is given later where the reader does not stay put
  abbrev pub and_later : Step A → List (Step A) → List (Step A)
  and_later s later = cond (stays s) (s ∷ []) (s ∷ later)

  -- records in order up to the first that breaks its layout, which is said, or to the end
  abbrev pub given_up_to_broken : List (Option A) → List (Step A)
  given_up_to_broken [] = Where.End ∷ []
  given_up_to_broken (Some x ∷ rs) = let later = given_up_to_broken rs in Where.Record x ∷ later
  given_up_to_broken (None ∷ rs) = Where.Broken ∷ []

  -- the number for each case of a step: that of a record that breaks its layout, 0 for a record and at the end
  abbrev pub number_of_step : ℕ → Step A → ℕ
  number_of_step broken (Where.Record x) = 0
  number_of_step broken Where.Broken = broken
  number_of_step broken Where.End = 0

  -- its values for each case: those of the record, none where none is given
  abbrev pub values_of_step : (A → List ℕ) → Step A → List ℕ
  values_of_step values (Where.Record x) = values x
  values_of_step values Where.Broken = []
  values_of_step values Where.End = []

  module _ (count : List ℕ → ℕ) (record_of : List ℕ → ℕ → Option A) where
    unfoldable pub step_at : List ℕ → ℕ → Step A
    step_at s at = cond (leb (count s) at) Where.End (given (record_of s at))

    unfoldable pub next_at : List ℕ → ℕ → ℕ
    next_at s at = cond (leb (count s) at) at (after (record_of s at) at)

    -- what a reader that stands at a number gives, in at most so many calls, up to where it stays put
    unfoldable pub read_all : ℕ → List ℕ → ℕ → List (Step A)
    read_all zero s at = []
    read_all (suc calls) s at = and_later (step_at s at) (read_all calls s (next_at s at))

-- ---- an exercise

abbrev pub ExerciseStep : Type 0
ExerciseStep = Step LogicCell

-- a record of the exercise: the cell of its kind, none where it breaks its layout
abbrev pub logic_cell_of : Record → Option LogicCell
logic_cell_of (Kind.Combinational c) = Some (Cell.Combinational c)
logic_cell_of (Kind.Register c) = Some (Cell.Register c)
logic_cell_of Kind.Malformed = None

abbrev pub logic_cell_at : List ℕ → ℕ → Option LogicCell
logic_cell_at e at = logic_cell_of (record_at (net_count e) e at)

abbrev pub logic_cell_values : LogicCell → List ℕ
logic_cell_values (Cell.Combinational c) = combinational_values c
logic_cell_values (Cell.Register c) = register_values c

-- a record of the exercise as the reader gives it
abbrev pub step_of : Record → ExerciseStep
step_of r = given (logic_cell_of r)

-- document 01's number for each case of a step: 15 for a record that breaks its layout
abbrev pub step_number : ExerciseStep → ℕ
step_number s = number_of_step 15 s

abbrev pub step_values : ExerciseStep → List ℕ
step_values s = values_of_step logic_cell_values s

abbrev pub exercise_step_at : List ℕ → ℕ → ExerciseStep
exercise_step_at e at = step_at cell_count logic_cell_at e at

-- the number and the values of what stands at a number: those of the record, and none at the end
unfoldable pub exercise_number_at : List ℕ → ℕ → ℕ
exercise_number_at e at = cond (leb (cell_count e) at) 0 (record_number (record_at (net_count e) e at))

unfoldable pub exercise_values_at : List ℕ → ℕ → List ℕ
exercise_values_at e at = cond (leb (cell_count e) at) [] (record_values (record_at (net_count e) e at))

abbrev pub next_exercise : List ℕ → ℕ → ℕ
next_exercise e at = next_at cell_count logic_cell_at e at

abbrev pub read_records : ℕ → List ℕ → ℕ → List ExerciseStep
read_records calls e at = read_all cell_count logic_cell_at calls e at

-- all records of an exercise, in order
abbrev pub records : List ℕ → List Record
records e = map (record_at (net_count e) e) (below (cell_count e))

abbrev pub up_to_broken : List Record → List ExerciseStep
up_to_broken rs = given_up_to_broken (map logic_cell_of rs)

-- ---- an answer

abbrev pub AnswerStep : Type 0
AnswerStep = Step Place

-- a place record as the reader gives it
abbrev pub place_step_of : Option Place → AnswerStep
place_step_of p = given p

-- document 01's number for each case of a step: 26 for a place record that is out of range
abbrev pub place_step_number : AnswerStep → ℕ
place_step_number s = number_of_step 26 s

abbrev pub place_step_values : AnswerStep → List ℕ
place_step_values s = values_of_step place_values s

abbrev pub answer_step_at : List ℕ → ℕ → AnswerStep
answer_step_at a at = step_at place_count placed_at a at

unfoldable pub answer_number_at : List ℕ → ℕ → ℕ
answer_number_at a at = cond (leb (place_count a) at) 0 (placed_number (placed_at a at))

unfoldable pub answer_values_at : List ℕ → ℕ → List ℕ
answer_values_at a at = cond (leb (place_count a) at) [] (placed_values (placed_at a at))

abbrev pub next_answer : List ℕ → ℕ → ℕ
next_answer a at = next_at place_count placed_at a at

abbrev pub read_places : ℕ → List ℕ → ℕ → List AnswerStep
read_places calls a at = read_all place_count placed_at calls a at

abbrev pub places : List ℕ → List (Option Place)
places a = map (placed_at a) (below (place_count a))

abbrev pub places_up_to_broken : List (Option Place) → List AnswerStep
places_up_to_broken ps = given_up_to_broken ps
