-- Requests M-100 and M-102, "is written again", from what the readers give in C: a sheet that passes is read as what the writers take to write it
-- again. Assumes nothing.
use Rattle.std.specs.Prelude.{ℕ, ◌<◌, ◌≡◌, List, [], length, get_or}
use Rattle.exercise.specs.Exercise.{net_count, cell_count}
use Rattle.answer.specs.Answer.{apprentice, place_count}
use Rattle.reader.specs.Reader.{exercise_step_at, answer_step_at}
use Rattle.writer.specs.Exercises.{Netlist, netlist_of, packed, ExercisePasses}
use Rattle.writer.specs.Answers.{Placement, placement_of, AnswerPasses}
use Rattle.settings.specs.Settings.{settings_number, settings_numbers, settings_entries}
use Rattle.writer.specs.Boards.{Board, board_of, SettingsPass}
use Rattle.c_api.specs.Told.{cell_told, cell_fields, place_told, place_fields}

-- `x` is what is written to get the exercise `e` again: its net count, as many cells as it has, and each as nurimkkot_next_record gives it
pub record CellsRead (e : List ℕ) (x : Netlist) : Type 0 where
  pub nets : x.nets ≡ net_count e
  pub count : length x.cells ≡ cell_count e
  pub given : (i : ℕ) → i < cell_count e → cell_told (exercise_step_at e i) ≡ 0
  pub each : (i : ℕ) → i < cell_count e → packed (cell_fields (exercise_step_at e i)) ≡ get_or x.cells i []

-- the same of an answer: its apprentice, and each place as nurimkkot_next_place gives it
pub record PlacesRead (a : List ℕ) (x : Placement) : Type 0 where
  pub named : x.apprentice ≡ apprentice a
  pub count : length x.places ≡ place_count a
  pub given : (i : ℕ) → i < place_count a → place_told (answer_step_at a i) ≡ 0
  pub each : (i : ℕ) → i < place_count a → place_fields (answer_step_at a i) ≡ get_or x.places i []

-- the same of a settings sheet: version, board number and as many entries, each as nurimkkot_read_settings gives them
pub record BoardRead (s : List ℕ) (x : Board) : Type 0 where
  pub told : settings_number s ≡ 0
  pub version : get_or (settings_numbers s) 0 0 ≡ x.version
  pub board : get_or (settings_numbers s) 1 0 ≡ x.number
  pub count : get_or (settings_numbers s) 2 0 ≡ length x.entries
  pub each : (i : ℕ) → i < length x.entries → get_or (settings_entries s) i 0 ≡ get_or x.entries i 0

-- with `written_again` of the writer's two laws: read and written again, a sheet has the same bytes
pub record Circle : Type 0 where
  pub exercise : (e : List ℕ) → ExercisePasses e → CellsRead e (netlist_of e)
  pub answer : (a : List ℕ) → AnswerPasses a → PlacesRead a (placement_of a)
  pub settings : (s : List ℕ) → SettingsPass s → BoardRead s (board_of s)
