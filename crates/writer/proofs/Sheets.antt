-- A sheet is a head and parts of one length each: how long it is, where its parts stand, and the numbers in its head. Assumes nothing.
use Prim.Native.Nat.{ℕ, zero, suc, ◌+◌, ◌*◌, ◌<◌}
use mathlib.Core.Path.{◌≡◌, refl, ap, ◌∙◌, sym}
use mathlib.Core.List.{List, [], ◌∷◌, ◌++◌}
use native.Mathlib.Nat.{mul-zero, mul-suc, add_comm, le_of_suc-le-suc, not-suc-le-zero}
use native.Mathlib.Omega.{arith}
use lib.ListN.{length, get_or, take, drop, length-append}
use lib.Seq.{take_at, take-length, drop_at, drop-append-add}
use lib.Dec.{eqb}
use Rattle.sheet.specs.Lists.{concat_map}
use Rattle.sheet.proofs.Laws.{by_test}
use Rattle.exercise.specs.Exercise.{net_count, cell_count, record_start, record_part}
use Rattle.answer.specs.Answer.{apprentice, place_count, place_start, place_part}
use Rattle.settings.specs.Settings.{version, entry_count, head_of, flags}
use Rattle.exercise.specs.Record.{record_bytes}
use Rattle.writer.specs.Exercises.{Netlist, exercise_head, exercise_sheet}
use Rattle.writer.specs.Answers.{Placement, answer_head, place_bytes, answer_sheet}
use Rattle.writer.specs.Boards.{Board, settings_head, settings_sheet}
use Rattle.writer.specs.passes.Put.{record_size}

-- ---- parts of w bytes each
module _ {A : Type 0} (w : ℕ) (f : A → List ℕ) (each : (x : A) → length (f x) ≡ w) where
  pub parts_length : (xs : List A) → length (concat_map f xs) ≡ w * length xs
  parts_length [] = sym (mul-zero w)
  parts_length (x ∷ xs) = length-append (f x) (concat_map f xs) ∙ rw (each x, parts_length xs, mul-suc w (length xs)) (add_comm w (w * length xs))

  past : (x : A) (i : ℕ) (ys : List ℕ) → drop (w * suc i) (f x ++ ys) ≡ drop (w * i) ys
  past x i ys = rw (mul-suc w i, add_comm (w * i) w, ← each x) (drop-append-add (f x) ys (length (f x) * i))

  parts_at : (xs : List A) (d : A) (i : ℕ) → i < length xs → take w (drop (w * i) (concat_map f xs)) ≡ f (get_or xs i d)
  parts_at [] d i h = absurd (not-suc-le-zero h)
  parts_at (x ∷ xs) d zero h = rw (mul-zero w) (take_at (f x) (concat_map f xs) w (each x))
  parts_at (x ∷ xs) d (suc i) h = ap (take w) (past x i (concat_map f xs)) ∙ parts_at xs d i (le_of_suc-le-suc h)

  module _ (head : List ℕ) (h : ℕ) (size : length head ≡ h) (xs : List A) where
    pub sheet_length : length (head ++ concat_map f xs) ≡ h + w * length xs
    sheet_length = length-append head (concat_map f xs) ∙ rw (size, parts_length xs)

    pub sheet_part : (d : A) (i : ℕ) → i < length xs → take w (drop (h + w * i) (head ++ concat_map f xs)) ≡ f (get_or xs i d)
    sheet_part d i l =
        ap (λ (m : ℕ). take w (drop (m + w * i) (head ++ concat_map f xs))) (sym size)
        ∙ ap (take w) (drop-append-add head (concat_map f xs) (w * i))
        ∙ parts_at xs d i l

-- ---- the exercise sheet
pub exercise_head_size : (nets total : ℕ) → length (exercise_head nets total) ≡ 9
unfolding exercise_head
exercise_head_size nets total = refl

module _ (x : Netlist) where
  abbrev n : ℕ
  n = length x.cells

  pub exercise_length : length (exercise_sheet x) ≡ record_start n
  unfolding exercise_sheet
  exercise_length = sheet_length 24 record_bytes record_size (exercise_head x.nets n) 9 (exercise_head_size x.nets n) x.cells

  pub exercise_part : (i : ℕ) → i < n → record_part (exercise_sheet x) i ≡ record_bytes (get_or x.cells i [])
  unfolding exercise_sheet
  exercise_part i h = sheet_part 24 record_bytes record_size (exercise_head x.nets n) 9 (exercise_head_size x.nets n) x.cells [] i h

  pub nets_back : net_count (exercise_sheet x) ≡ x.nets
  unfolding exercise_sheet exercise_head
  nets_back = omega arith

  pub cells_back : cell_count (exercise_sheet x) ≡ n
  unfolding exercise_sheet exercise_head
  cells_back = omega arith

-- ---- the answer sheet
pub place_size : (p : List ℕ) → length (place_bytes p) ≡ 4
unfolding place_bytes
place_size p = refl

pub answer_head_size : (a total : ℕ) → length (answer_head a total) ≡ 11
unfolding answer_head
answer_head_size a total = refl

module _ (x : Placement) where
  abbrev m : ℕ
  m = length x.places

  pub answer_length : length (answer_sheet x) ≡ place_start m
  unfolding answer_sheet
  answer_length = sheet_length 4 place_bytes place_size (answer_head x.apprentice m) 11 (answer_head_size x.apprentice m) x.places

  pub answer_part : (i : ℕ) → i < m → place_part (answer_sheet x) i ≡ place_bytes (get_or x.places i [])
  unfolding answer_sheet
  answer_part i h = sheet_part 4 place_bytes place_size (answer_head x.apprentice m) 11 (answer_head_size x.apprentice m) x.places [] i h

  pub apprentice_back : apprentice (answer_sheet x) ≡ x.apprentice
  unfolding answer_sheet answer_head
  apprentice_back = let a = x.apprentice in omega arith

  pub places_back : place_count (answer_sheet x) ≡ m
  unfolding answer_sheet answer_head
  places_back = omega arith

-- ---- the settings sheet
pub settings_head_size : (version number total : ℕ) → length (settings_head version number total) ≡ head_of version
unfolding settings_head
settings_head_size version number total = by_test (eqb version 2) (λ t. rw t) (λ t. rw t)

module _ (x : Board) where
  abbrev e : ℕ
  e = length x.entries

  pub settings_length : length (settings_sheet x) ≡ head_of x.version + e
  unfolding settings_sheet
  settings_length =
      length-append (settings_head x.version x.number e) x.entries
      ∙ ap (λ (k : ℕ). k + e) (settings_head_size x.version x.number e)

  pub version_back : version (settings_sheet x) ≡ x.version
  unfolding settings_sheet settings_head
  version_back = omega arith

  pub count_back : entry_count (settings_sheet x) ≡ e
  unfolding settings_sheet settings_head
  count_back = refl

  pub flags_back : flags (settings_sheet x) ≡ x.entries
  unfolding settings_sheet
  flags_back =
      let head = settings_head x.version x.number e in
      let size = settings_head_size x.version x.number e in
      rw (version_back, count_back, drop_at head x.entries (head_of x.version) size) (take-length x.entries)
