-- A class sheet and the list of its answers say the same: the sheet of a list is read as this list, and a sheet that passes is that of the answers that are
-- read from it. Assumes nothing.
use Prim.Native.Nat.{ℕ, zero, suc, ◌+◌, ◌≤◌, ◌<◌}
use native.Mathlib.Nat.{add-zero, zero-add}
use native.Mathlib.Omega.{arith}
use mathlib.Core.Path.{◌≡◌, refl, sym, ap, ◌∙◌}
use mathlib.Core.Bool.{false}
use mathlib.Core.List.{List, [], ◌∷◌, ◌++◌, map}
use lib.ListN.{length, drop, length-append, length-drop, take-append-drop}
use lib.Seq.{length-take-le, drop-length, drop-cons, drop-drop, get_or-drop, take-append_seam, drop-append_seam}
use borrow.Author.Tests.{eqb-true, eq-eqb, ltb-false, le-ltb, not-false}
use Rattle.sheet.specs.Lists.{Every, concat_map, from, below}
use Rattle.sheet.specs.Bytes.{byte_at, u16_at, u16_bytes, AllBytes}
use Rattle.sheet.specs.Header.{wrong_mark, wrong_version}
use Rattle.sheet.proofs.Lists.{table_length}
use Rattle.sheet.proofs.Again.{two_again, version_1, mark_again}
use Rattle.sheet.proofs.Checks.{none_broken, all_held}
use Rattle.class.specs.Class.{MOST, answer_count, start_of, answer_of, answers_on, wrong_lengths, class_checks, refusal}
use Rattle.class.specs.Packed.{after_length, class_sheet, ClassSheets}

-- from the length of answer i on, the sheet holds these answers, each after its length, and no more
record Left (k : List ℕ) (i : ℕ) (answers : List (List ℕ)) : Type 0 where
  within : start_of k i ≤ length k
  left : drop (start_of k i) k ≡ concat_map after_length answers

-- ---- reading: of the answers that are left the first is read, and the others are left
module _ (k : List ℕ) (i : ℕ) (a : List ℕ) (rest : List (List ℕ)) (l : Left k i (a ∷ rest)) where
  abbrev at : ℕ
  at = start_of k i

  byte_read : (n : ℕ) → byte_at k (at + n) ≡ byte_at (concat_map after_length (a ∷ rest)) n
  byte_read n = sym (get_or-drop at k n 0) ∙ ap (λ (s : List ℕ). byte_at s n) l.left

  length_read : u16_at k at ≡ length a
  length_read = let low = rw add-zero at (byte_read 0) in omega (arith, byte_read 1)

  after_read : drop (at + 2) k ≡ a ++ concat_map after_length rest
  after_read = sym (drop-drop 2 at k) ∙ ap (drop 2) l.left

  answer_read : answer_of k i ≡ a
  unfolding answer_of
  answer_read = rw (length_read, after_read) (take-append_seam a (concat_map after_length rest))

  others_left : Left k (suc i) rest
  unfolding start_of
  others_left = record {
    within = omega (arith, length_read, length-drop at k, simp length-append at (ap length l.left));
    left = rw (length_read, ← drop-drop (length a) (at + 2) k, after_read) (drop-append_seam a (concat_map after_length rest));
  }

all_read : (k : List ℕ) (i : ℕ) (rest : List (List ℕ)) → Left k i rest
    → (map (answer_of k) (from i (length rest)) ≡ rest) × (start_of k (i + length rest) ≡ length k)
all_read k i [] l = (refl, rw add-zero (omega (arith, l.within, length-drop (start_of k i) k, ap length l.left)))
all_read k i (a ∷ rest) l =
    let (same, ends) = all_read k (suc i) rest (others_left k i a rest l) in
    let next : i + suc (length rest) ≡ suc i + length rest = omega arith in
    (rw (answer_read k i a rest l, same), rw next ends)

-- the sheet of a list of answers: all of them are left behind its head, and no check is broken
module _ (answers : List (List ℕ)) where
  abbrev sheet : List ℕ
  sheet = class_sheet answers

  count_read : answer_count sheet ≡ length answers
  unfolding class_sheet
  count_read = omega arith

  all_left : Left sheet 0 answers
  unfolding class_sheet start_of
  all_left = record { within = omega arith; left = refl }

  sheet_read : answers_on sheet ≡ answers
  unfolding answers_on
  sheet_read = rw count_read (all_read sheet 0 answers all_left).0

  lengths_pass : wrong_lengths sheet ≡ false
  unfolding wrong_lengths
  lengths_pass =
      let ends = rw zero-add at (all_read sheet 0 answers all_left).1 in
      rw (count_read, eq-eqb (start_of sheet (length answers)) (length sheet) ends)

  sheet_passes : length answers ≤ MOST → refusal sheet (length answers) ≡ 0
  unfolding refusal wrong_mark wrong_version class_sheet
  sheet_passes few = none_broken (class_checks sheet (length answers)) (
    le-ltb (length sheet) 7 (omega arith),
    (refl, (refl, (le-ltb MOST (answer_count sheet) (omega arith), (lengths_pass, (le-ltb (length answers) (answer_count sheet) (omega arith), tt))))),
  )

-- its bytes
bytes_append : (xs ys : List ℕ) → AllBytes xs → AllBytes ys → AllBytes (xs ++ ys)
bytes_append [] ys f g i = g i
bytes_append (x ∷ xs) ys f g zero = f 0
bytes_append (x ∷ xs) ys f g (suc i) = bytes_append xs ys (λ j. f (suc j)) g i

number_bytes : (n : ℕ) → n < 65536 → AllBytes (u16_bytes n)
number_bytes n h zero = omega arith
number_bytes n h (suc zero) = omega arith
number_bytes n h (suc (suc i)) = omega arith

answers_bytes : (answers : List (List ℕ)) → Every (λ a. (length a < 65536) × AllBytes a) answers → AllBytes (concat_map after_length answers)
answers_bytes [] h = λ i. omega arith
answers_bytes (a ∷ rest) h =
    bytes_append (after_length a) (concat_map after_length rest) (bytes_append (u16_bytes (length a)) a (number_bytes (length a) h.0.0) h.0.1) (answers_bytes rest h.1)

mark_bytes_lem : AllBytes (76 ∷ 88 ∷ 67 ∷ [])
mark_bytes_lem zero = omega arith
mark_bytes_lem (suc zero) = omega arith
mark_bytes_lem (suc (suc zero)) = omega arith
mark_bytes_lem (suc (suc (suc i))) = omega arith

sheet_bytes : (answers : List (List ℕ)) → length answers ≤ MOST → Every (λ a. (length a < 65536) × AllBytes a) answers → AllBytes (class_sheet answers)
unfolding class_sheet
sheet_bytes answers few h =
    let all = concat_map after_length answers in
    let counted = bytes_append (u16_bytes (length answers)) all (number_bytes (length answers) (omega arith)) (answers_bytes answers h) in
    let versioned = bytes_append (u16_bytes 1) (u16_bytes (length answers) ++ all) (number_bytes 1 (omega arith)) counted in
    bytes_append (76 ∷ 88 ∷ 67 ∷ []) (u16_bytes 1 ++ (u16_bytes (length answers) ++ all)) mark_bytes_lem versioned

-- ---- packing: where bytes are left, the length in front of an answer and the answer are what is packed again
module _ (k : List ℕ) (bytes : AllBytes k) where
  number_again : (at : ℕ) → at + 2 ≤ length k → drop at k ≡ u16_bytes (u16_at k at) ++ drop (at + 2) k
  number_again at h =
      let one : at + 1 ≡ suc at = omega arith in
      let two : at + 2 ≡ suc (suc at) = omega arith in
      let read : drop at k ≡ byte_at k at ∷ byte_at k (at + 1) ∷ drop (at + 2) k = rw (two, one, drop-cons k at 0 (omega arith), drop-cons k (suc at) 0 (omega arith)) in
      read ∙ sym (two_again k at bytes refl)

  one_more_lem : (i : ℕ) (rest : List (List ℕ)) → Left k (suc i) rest → Left k i (answer_of k i ∷ rest)
  unfolding start_of answer_of
  one_more_lem i rest l =
      let at = start_of k i in
      let n = u16_at k at in
      let after = drop (at + 2) k in
      let size = length-take-le n after (rw (length-drop (at + 2) k) (omega (arith, l.within))) in
      record {
        within = omega (arith, l.within);
        left = number_again at (omega (arith, l.within)) ∙ rw (size, ← l.left, ← drop-drop n (at + 2) k, take-append-drop n after);
      }

  all_again : (n i : ℕ) → start_of k (i + n) ≡ length k → Left k i (map (answer_of k) (from i n))
  all_again zero i ends = let here = rw add-zero at ends in record { within = omega arith; left = rw here (drop-length k) }
  all_again (suc n) i ends =
      let next : suc i + n ≡ i + suc n = omega arith in
      one_more_lem i (map (answer_of k) (from (suc i) n)) (all_again n (suc i) (rw next ends))

  front_read : 7 ≤ length k → k ≡ byte_at k 0 ∷ byte_at k 1 ∷ byte_at k 2 ∷ byte_at k 3 ∷ byte_at k 4 ∷ drop 5 k
  front_read long =
      drop-cons k 0 0 (omega arith)
      ∙ rw (drop-cons k 1 0 (omega arith), drop-cons k 2 0 (omega arith), drop-cons k 3 0 (omega arith), drop-cons k 4 0 (omega arith))

  sheet_again : (rows : ℕ) → refusal k rows ≡ 0 → k ≡ class_sheet (answers_on k)
  unfolding refusal wrong_lengths start_of answers_on class_sheet
  sheet_again rows h =
      let (short, (mark, (version, (few, (lengths, enough))))) = all_held (class_checks k rows) refl h in
      let long = ltb-false (length k) 7 short in
      let ends = eqb-true (start_of k (answer_count k)) (length k) (not-false _ lengths) in
      let all = all_again (answer_count k) 0 (rw zero-add ends) in
      let count = table_length (answer_of k) (answer_count k) in
      let rest : drop 5 k ≡ u16_bytes (length (map (answer_of k) (below (answer_count k)))) ++ concat_map after_length (map (answer_of k) (below (answer_count k)))
      = rw (number_again 5 (omega arith), count, all.left) in
      front_read long ∙ sym (mark_again 67 1 k bytes mark (version_1 k version) (sym rest))

pub class_sheets : ClassSheets
class_sheets = record {
  are_bytes = sheet_bytes;
  reads_back = λ answers few. (sheet_passes answers few, sheet_read answers);
  packed_again = λ k rows bytes h. sheet_again k bytes rows h;
}
