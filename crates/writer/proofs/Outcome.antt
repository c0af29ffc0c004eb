-- What holds where no check of a writer is broken, and 26 of places, by their numbers. Assumes nothing.
use Prim.Native.Nat.{ℕ, ◌+◌, ◌≤◌, ◌<◌}
use mathlib.Core.Path.{◌≡◌, refl, sym, ap, ◌∙◌}
use mathlib.Core.Bool.{false, ◌||◌}
use mathlib.Core.List.{List, [], ◌∷◌}
use native.Mathlib.Omega.{arith}
use lib.ListN.{length, get_or, take, replicate, length-replicate}
use lib.Seq.{sets}
use lib.Dec.{ltb}
use borrow.Author.Tests.{ltb-false}
use Rattle.sheet.specs.Lists.{concat_map, anyb, below}
use Rattle.sheet.specs.Bytes.{low_byte}
use Rattle.sheet.proofs.Laws.{by_test, or_parts}
use Rattle.sheet.proofs.Checks.{all_held}
use Rattle.sheet.proofs.Lists.{any-get_or}
use Rattle.sheet.proofs.Scan.{any_below}
use Rattle.sheet.proofs.First.{first_below}
use Rattle.exercise.specs.Exercise.{record_start}
use Rattle.answer.specs.Answer.{place_start, placed_of, placed_at}
use Rattle.placing.specs.Places.{is_out_of_range, out_of_range_at}
use Rattle.writer.specs.Exercises.{Netlist, exercise_sheet, exercise_writer_checks, exercise_refusal}
use Rattle.writer.specs.Answers.{Placement, place_bytes, answer_sheet, answer_writer_checks, answer_refusal}
use Rattle.entries.specs.Table.{ENTRIES}
use Rattle.settings.specs.Settings.{head_of}
use Rattle.writer.specs.Boards.{Board, settings_writer_checks, settings_refusal}
use Rattle.writer.specs.passes.Put.{cut_bytes, cut_sheet, off_board}
use Rattle.writer.proofs.Sheets.{exercise_length, answer_part}
use Rattle.writer.proofs.Putting.{front_is}

-- ---- no check is broken
-- an exercise that is not refused has room, and few cells
pub record ExerciseFits (x : Netlist) (room : ℕ) : Type 0 where
  pub roomy : record_start (length x.cells) ≤ room
  pub few : length x.cells ≤ 512

pub exercise_fits : (x : Netlist) (room : ℕ) → exercise_refusal x room ≡ 0 → ExerciseFits x room
unfolding exercise_refusal
exercise_fits x room h =
    let k = all_held (exercise_writer_checks x room) refl h in
    record {
      roomy = ltb-false _ _ k.0;
      few = ltb-false _ _ k.1.0;
    }

-- an answer that is not refused has room and few places, and every place is in range
pub record AnswerFits (x : Placement) (room : ℕ) : Type 0 where
  pub roomy : place_start (length x.places) ≤ room
  pub few : length x.places ≤ 512
  pub placed : anyb (out_of_range_at (answer_sheet x)) (below (length x.places)) ≡ false

pub answer_fits : (x : Placement) (room : ℕ) → answer_refusal x room ≡ 0 → AnswerFits x room
unfolding answer_refusal
answer_fits x room h =
    let k = all_held (answer_writer_checks x room) refl h in
    record { roomy = ltb-false _ _ k.0; few = ltb-false _ _ k.1.0; placed = k.1.1.1.0 }

-- a settings sheet that is not refused has room, and few entries
pub record SettingsFit (x : Board) (room : ℕ) : Type 0 where
  pub roomy : head_of x.version + length x.entries ≤ room
  pub few : length x.entries ≤ ENTRIES

pub settings_fit : (x : Board) (room : ℕ) → settings_refusal x room ≡ 0 → SettingsFit x room
unfolding settings_refusal
settings_fit x room h =
    let (_, (few, (_, (fits, _)))) = all_held (settings_writer_checks x room) refl h in
    record { roomy = ltb-false _ _ fits; few = ltb-false _ _ few }

-- a buffer for the longest exercise has the sheet in front once it is stored
pub sheet_in_front : (x : Netlist) (to : List ℕ) → length x.cells ≤ 512 → to ≡ sets (replicate 12297 0) 0 (exercise_sheet x)
    → take (record_start (length x.cells)) to ≡ exercise_sheet x
sheet_in_front x to h s =
    front_is (replicate 12297 0) (exercise_sheet x) to (record_start (length x.cells)) s (exercise_length x) (rw (length-replicate {A = ℕ} 12297 0) (omega arith))

-- ---- 26, by the numbers of the places
out_of : (p : List ℕ) → is_out_of_range (placed_of (place_bytes p)) ≡ off_board p
unfolding placed_of place_bytes off_board
out_of p = by_test (ltb 31 (get_or p 0 0) || ltb 31 (get_or p 1 0) || ltb 15 (get_or p 2 0)) (λ t. rw t) (λ t. rw t)

module _ (x : Placement) where
  out_at : (i : ℕ) → i < length x.places → out_of_range_at (answer_sheet x) i ≡ off_board (get_or x.places i [])
  unfolding out_of_range_at placed_at
  out_at i h = ap (λ (p : List ℕ). is_out_of_range (placed_of p)) (answer_part x i h) ∙ out_of (get_or x.places i [])

  -- 26 of the sheet is 26 of the places' numbers
  pub any_out : anyb (out_of_range_at (answer_sheet x)) (below (length x.places)) ≡ anyb off_board x.places
  any_out =
      any_below (out_of_range_at (answer_sheet x)) (length x.places)
      ∙ ap (λ (k : ℕ). ltb k (length x.places)) (first_below _ (λ i. off_board (get_or x.places i [])) (length x.places) out_at)
      ∙ sym (any_below (λ i. off_board (get_or x.places i [])) (length x.places))
      ∙ any-get_or off_board [] x.places

-- places that are in range are stored whole
cut_none : (p : List ℕ) → off_board p ≡ false → cut_bytes p ≡ place_bytes p
unfolding off_board cut_bytes place_bytes
cut_none p h =
    let a = or_parts (ltb 31 (get_or p 0 0) || ltb 31 (get_or p 1 0)) (ltb 15 (get_or p 2 0)) h in
    let b = or_parts (ltb 31 (get_or p 0 0)) (ltb 31 (get_or p 1 0)) a.0 in
    let x : low_byte (get_or p 0 0) ≡ get_or p 0 0 = small (get_or p 0 0) 31 (ltb-false 31 (get_or p 0 0) b.0) (omega arith) in
    let y : low_byte (get_or p 1 0) ≡ get_or p 1 0 = small (get_or p 1 0) 31 (ltb-false 31 (get_or p 1 0) b.1) (omega arith) in
    let le : low_byte (get_or p 2 0) ≡ get_or p 2 0 = small (get_or p 2 0) 15 (ltb-false 15 (get_or p 2 0) a.1) (omega arith) in
    rw (x, y, le)
  where
    small : (n most : ℕ) → n ≤ most → most < 256 → low_byte n ≡ n
    small n most h l = omega arith

cuts_none : (ps : List (List ℕ)) → anyb off_board ps ≡ false → concat_map cut_bytes ps ≡ concat_map place_bytes ps
cuts_none [] h = refl
cuts_none (p ∷ ps) h = let a = or_parts (off_board p) (anyb off_board ps) h in rw (cut_none p a.0, cuts_none ps a.1)

pub cut_same : (x : Placement) → anyb (out_of_range_at (answer_sheet x)) (below (length x.places)) ≡ false → cut_sheet x ≡ answer_sheet x
unfolding cut_sheet answer_sheet
cut_same x h = rw (cuts_none x.places (sym (any_out x) ∙ h))
