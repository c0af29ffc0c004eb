-- Request M-100, the two laws of a writer: "Whatever it writes reads back as the same records, and any sheet that passes .. is written again to
-- identical bytes." They speak of a format, so that every writer has the same two. Assumes nothing.
use Rattle.std.specs.Prelude.{ℕ, ◌≤◌, ◌≡◌, false, List, ◌++◌, length, take, drop}
use Rattle.sheet.specs.Lists.{anyb, below}
use Rattle.sheet.specs.Bytes.{AllBytes}
use Rattle.exercise.specs.Exercise.{cell_count, exercise_number}
use Rattle.answer.specs.Answer.{place_count, opening_number}
use Rattle.placing.specs.Places.{out_of_range_at}
use Rattle.writer.specs.Writing.{told, buffer_after}
use Rattle.writer.specs.Exercises.{Netlist, exercise_sheet, exercise_refusal, netlist_of, ExercisePasses, TwelveEach}
use Rattle.writer.specs.Answers.{Placement, answer_sheet, answer_refusal, placement_of, AnswerPasses, ThreeEach}
use Rattle.writer.specs.Boards.{Board, settings_sheet, settings_refusal, board_of, SettingsPass}

-- a format of sheets that say an A
pub record Format (A : Type 0) : Type 1 where
  -- the sheet that is written for it, and the number that refuses it in a buffer of so many bytes, or 0
  pub sheet : A → List ℕ
  pub refusal : A → ℕ → ℕ
  -- what a sheet says to the judge and the readers, and that it passes the judge's numbers for it
  pub says : List ℕ → A
  pub Passes : List ℕ → Type 0
  -- what the types of the writer's parameters make sure of
  pub Given : A → Type 0

abbrev pub exercise_format : Format Netlist
exercise_format = record { sheet = exercise_sheet; refusal = exercise_refusal; says = netlist_of; Passes = ExercisePasses; Given = TwelveEach }

abbrev pub answer_format : Format Placement
answer_format = record { sheet = answer_sheet; refusal = answer_refusal; says = placement_of; Passes = AnswerPasses; Given = ThreeEach }

abbrev pub settings_format : Format Board
settings_format = record { sheet = settings_sheet; refusal = settings_refusal; says = board_of; Passes = SettingsPass; Given = λ _. Unit {0} }

module _ {A : Type 0} (F : Format A) where
  -- the buffer and the length once x was written into `lent`
  abbrev pub after : A → List ℕ → List ℕ
  after x lent = buffer_after (F.refusal x (length lent)) (F.sheet x) lent

  abbrev pub size : A → List ℕ → ℕ
  size x lent = (told (F.refusal x (length lent)) (F.sheet x)).length

  -- what is written: as many first bytes of the buffer as the length says are a sheet that passes and says the same; the others stay
  pub record ReadsBack (x : A) (lent : List ℕ) : Type 0 where
    pub within : size x lent ≤ length lent
    pub passes : F.Passes (take (size x lent) (after x lent))
    pub same : F.says (take (size x lent) (after x lent)) ≡ x
    pub stays : drop (size x lent) (after x lent) ≡ drop (size x lent) lent

  -- a sheet is written again, from what it says: no refusal, its length, its bytes; the others stay
  pub record WrittenAgain (s lent : List ℕ) : Type 0 where
    pub not_refused : F.refusal (F.says s) (length lent) ≡ 0
    pub same_length : size (F.says s) lent ≡ length s
    pub same_bytes : after (F.says s) lent ≡ s ++ drop (length s) lent

  pub record TwoLaws : Type 0 where
    pub reads_back : (x : A) (lent : List ℕ) → F.Given x → F.refusal x (length lent) ≡ 0 → ReadsBack x lent
    pub written_again : (s lent : List ℕ) → AllBytes s → F.Passes s → length s ≤ length lent → WrittenAgain s lent

-- "20 to 26 beside its exercise": an exercise that passes 10 to 14, and an answer with as many cells (24) that passes the others, is written again
unfoldable pub BesideExercise : Type 0
BesideExercise =
    (e a lent : List ℕ) → exercise_number e ≡ 0 → opening_number a ≡ 0 → place_count a ≡ cell_count e
    → anyb (out_of_range_at a) (below (place_count a)) ≡ false → AllBytes a → length a ≤ length lent → WrittenAgain answer_format a lent
