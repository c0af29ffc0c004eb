-- The two laws of the answer's writer: what is written reads back as the same places, and a sheet that passes 20 to 26 without 24 is written
-- again to the same bytes. Assumes nothing.
use Prim.Native.Nat.{ℕ, ◌/◌, ◌%◌, ◌≤◌, ◌<◌}
use mathlib.Core.Path.{◌≡◌, refl, ap, ◌∙◌}
use mathlib.Core.Bool.{false, not, ◌||◌, true≢false}
use mathlib.Core.List.{List, [], ◌∷◌}
use native.Mathlib.Omega.{arith}
use lib.ListN.{length, get_or, take}
use lib.Dec.{eqb, ltb}
use borrow.Author.Tests.{eq-eqb, le-ltb, eqb-true, eqb-false, ltb-false, not-false}
use Rattle.sheet.specs.Lists.{anyb, below}
use Rattle.sheet.specs.Bytes.{byte_at, u16_at, AllBytes}
use Rattle.sheet.specs.Checks.{check}
use Rattle.sheet.specs.Header.{wrong_mark, wrong_version}
use Rattle.sheet.proofs.Scan.{none_at}
use Rattle.sheet.proofs.Lists.{table_length}
use Rattle.sheet.proofs.Again.{two_again, version_1, mark_again}
use Rattle.sheet.proofs.Checks.{none_broken, all_held}
use Rattle.sheet.proofs.Laws.{by_test, or_parts}
use Rattle.exercise.proofs.Head.{headed}
use Rattle.answer.specs.Answer.{apprentice, place_count, place_start, place_part, answer_checks, wrong_answer_length, answer_number, opening_number}
use Rattle.answer.specs.Answer.{out_of_range, breaks_place, place_fields, placed_of, placed_at, placed_values}
use Rattle.answer.proofs.Numbers.{placed_says}
use Rattle.placing.specs.Places.{out_of_range_at}
use Rattle.writer.specs.Answers.{Placement, answer_head, place_bytes, answer_sheet, placement_of}
use Rattle.writer.specs.Answers.{answer_writer_checks, answer_refusal, AnswerPasses, ThreeEach}
use Rattle.writer.specs.Laws.{TwoLaws, answer_format, BesideExercise}
use Rattle.writer.proofs.Sheets.{answer_length, answer_part, apprentice_back, places_back}
use Rattle.writer.proofs.Again.{every_at, table_is, bytes_front, bytes_whole}
use Rattle.writer.proofs.Again.{sheet_again, two_laws}

-- ---- a place
-- what place i of a sheet says
abbrev said : List ℕ → ℕ → List ℕ
said a i = placed_values (placed_at a i)

-- where 26 does not refuse it, its bytes say the same, and are in range
said_is : (a : List ℕ) (i : ℕ) → out_of_range_at a i ≡ false → (said a i ≡ place_fields (place_part a i)) × (breaks_place (place_part a i) ≡ false)
unfolding out_of_range_at placed_at
said_is a i h =
    let p = place_part a i in
    let (_, (number, values)) = placed_says p {r = placed_of p} refl in
    by_test (breaks_place p) (λ t. absurd (true≢false (rw (number, t) at h))) (λ t. (rw t at values, t))

-- three numbers, read from the bytes that are written for them
fields_given : (p : List ℕ) → length p ≡ 3 → place_fields (place_bytes p) ≡ p
unfolding place_bytes
fields_given p l = bytes_whole p 3 l

-- four bytes in range, written from the numbers that they say
fields_again : (p : List ℕ) → breaks_place p ≡ false → place_bytes (place_fields p) ≡ p
unfolding place_bytes
fields_again p h =
    let (size, range) = or_parts (not (eqb (length p) 4)) (out_of_range p) h in
    let fields = ltb 31 (byte_at p 0) || ltb 31 (byte_at p 1) || ltb 15 (byte_at p 2) in
    let last = (or_parts fields (not (eqb (byte_at p 3) 0)) range).1 in
    rw (eqb-true (byte_at p 3) 0 (not-false _ last)) at (bytes_whole p 4 (eqb-true (length p) 4 (not-false _ size)))

-- ---- what 20 to 25 without 24 leave
opened : (a : List ℕ) → opening_number a ≡ 0
    → (wrong_mark 65 a ≡ false) × (wrong_version a ≡ false) × (eqb (apprentice a) 0 ≡ false) × (length a ≡ place_start (place_count a))
unfolding opening_number answer_number wrong_answer_length
opened a h =
    let first = answer_number a in
    by_test (eqb first 0)
    (λ t. let (_, (mark, (version, (named, _)))) = all_held (answer_checks a) refl (eqb-true first 0 t) in
    let (size, _) = all_held (check 25 (wrong_answer_length a) ∷ []) refl (rw t at h) in
    (mark, version, named, eqb-true _ _ (not-false _ size)))
    (λ t. absurd (eqb-false first 0 t (rw t at h)))

-- ---- the first law
module _ (x : Placement) where
  abbrev n : ℕ
  n = length x.places

  abbrev a : List ℕ
  a = answer_sheet x

  marked : (wrong_mark 65 a ≡ false) × (wrong_version a ≡ false)
  unfolding answer_sheet answer_head wrong_mark wrong_version
  marked = (refl, refl)

  opens : eqb x.apprentice 0 ≡ false → opening_number a ≡ 0
  unfolding opening_number answer_number wrong_answer_length
  opens named =
      let size = answer_length x in
      let long = le-ltb (length a) 11 (omega arith) in
      let first = none_broken (answer_checks a) (long, (marked.0, (marked.1, (rw (apprentice_back x) named, tt)))) in
      rw (first, places_back x, eq-eqb (length a) (place_start n) size)

  said_back : ThreeEach x → anyb (out_of_range_at a) (below n) ≡ false → (i : ℕ) → i < n → said a i ≡ get_or x.places i []
  unfolding ThreeEach
  said_back given placed i l =
      (said_is a i (none_at (out_of_range_at a) n placed i l)).0
      ∙ ap place_fields (answer_part x i l)
      ∙ fields_given (get_or x.places i []) (every_at (λ (p : List ℕ). length p ≡ 3) [] x.places given i l)

  answer_writes : (room : ℕ) → ThreeEach x → answer_refusal x room ≡ 0 → (length a ≤ room) × AnswerPasses a × (placement_of a ≡ x)
  unfolding answer_refusal AnswerPasses placement_of
  answer_writes room given h =
      let (fits, (few, (named, (placed, _)))) = all_held (answer_writer_checks x room) refl h in
      let passes : AnswerPasses a = (opens named, rw (places_back x) placed, rw (places_back x) (ltb-false 512 n few)) in
      let same = table_is (said a) [] x.places (said_back given placed) in
      (rw (answer_length x) (ltb-false room (place_start n) fits), passes, rw (apprentice_back x, places_back x, same))

-- ---- the second law
module _ (a : List ℕ) (b : AllBytes a) where
  head_again : wrong_mark 65 a ≡ false → wrong_version a ≡ false → 11 ≤ length a → answer_head (apprentice a) (place_count a) ≡ take 11 a
  unfolding answer_head
  head_again mark version long =
      let b5 = b 5 in
      let b6 = b 6 in
      let low : apprentice a % 65536 ≡ u16_at a 5 = omega arith in
      let high : apprentice a / 65536 ≡ u16_at a 7 = omega arith in
      rw (low, high) (mark_again 65 1 a b mark (version_1 a version) (two_again a 5 b (two_again a 7 b (two_again a 9 b refl))) ∙ bytes_front a 11 long)

  part_again : anyb (out_of_range_at a) (below (place_count a)) ≡ false → (i : ℕ) → i < place_count a → place_bytes (said a i) ≡ place_part a i
  part_again placed i l =
      let (same, kept) = said_is a i (none_at (out_of_range_at a) (place_count a) placed i l) in
      ap place_bytes same ∙ fields_again (place_part a i) kept

  bytes_again : AnswerPasses a → answer_sheet (placement_of a) ≡ a
  unfolding AnswerPasses placement_of answer_sheet
  bytes_again (number, placed, _) =
      let (mark, version, _, size) = opened a number in
      rw (table_length (said a) (place_count a), head_again mark version (omega arith))
      (sheet_again 11 4 place_bytes a (said a) (place_count a) size (part_again placed))

  answer_again : (room : ℕ) → AnswerPasses a → length a ≤ room → (answer_sheet (placement_of a) ≡ a) × (answer_refusal (placement_of a) room ≡ 0)
  unfolding AnswerPasses placement_of answer_refusal
  answer_again room p roomy =
      let (_, _, named, size) = opened a p.0 in
      let x = placement_of a in
      let n = length x.places in
      let same : answer_sheet x ≡ a = bytes_again p in
      let count : n ≡ place_count a = table_length (said a) (place_count a) in
      let fits = le-ltb room (place_start n) (omega arith) in
      let few = le-ltb 512 n (omega (arith, p.2)) in
      (same, none_broken (answer_writer_checks x room) (fits, (few, (named, (rw (count, same) p.1, tt)))))

pub answer_laws : TwoLaws answer_format
answer_laws = two_laws answer_format answer_writes answer_again

-- beside its exercise an answer has at most 512 places, by 13 and 24
pub beside_exercise : BesideExercise
unfolding BesideExercise AnswerPasses
beside_exercise e a lent exercise opens same placed bytes room =
    answer_laws.written_again a lent bytes (opens, placed, rw same (headed e exercise).3) room
