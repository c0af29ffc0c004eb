-- The two laws of the exercise's writer: what is written reads back as the same records, and a sheet that passes 10 to 16 is written again to
-- the same bytes. Assumes nothing.
use Prim.Native.Nat.{ℕ, ◌≤◌, ◌<◌}
use mathlib.Core.Path.{◌≡◌, refl, ap, ◌∙◌}
use mathlib.Core.Bool.{false, true≢false}
use mathlib.Core.List.{List, []}
use native.Mathlib.Omega.{arith}
use lib.ListN.{length, get_or, take, drop, length-drop}
use lib.Seq.{length-take-le}
use borrow.Author.Tests.{eq-eqb, le-ltb, ltb-false}
use Rattle.sheet.specs.Lists.{anyb}
use Rattle.sheet.specs.Header.{wrong_mark, wrong_version}
use Rattle.sheet.specs.Bytes.{AllBytes}
use Rattle.sheet.proofs.Scan.{none_at}
use Rattle.sheet.proofs.Lists.{table_length}
use Rattle.sheet.proofs.Again.{two_again, version_1, mark_again}
use Rattle.sheet.proofs.Checks.{none_broken, all_held}
use Rattle.sheet.proofs.Laws.{by_test}
use Rattle.exercise.specs.Exercise.{net_count, cell_count, record_start, record_part, over_limit, wrong_exercise_length, exercise_checks, exercise_number}
use Rattle.exercise.specs.Record.{record_bytes, breaks_layout, record_fields, record_at, record_values}
use Rattle.exercise.proofs.Head.{headed}
use Rattle.exercise.proofs.Numbers.{record_number_lem, record_values_lem}
use Rattle.tables.specs.Records.{cell, cell_numbers, malformed}
use Rattle.writer.specs.Exercises.{Netlist, exercise_head, exercise_sheet, packed, netlist_of}
use Rattle.writer.specs.Exercises.{record_checks, records_number, exercise_writer_checks, exercise_refusal, ExercisePasses, TwelveEach}
use Rattle.writer.specs.Laws.{TwoLaws, exercise_format}
use Rattle.writer.proofs.Sheets.{exercise_length, exercise_part, nets_back, cells_back}
use Rattle.writer.proofs.Again.{every_at, table_is, bytes_front, bytes_whole}
use Rattle.writer.proofs.Again.{joined, part_bytes, sheet_again, two_laws}

-- ---- a record
-- what cell i of a sheet says
abbrev said : List ℕ → ℕ → List ℕ
said e i = packed (record_values (cell e i))

-- where 15 does not refuse it, its bytes say the same
said_is : (e : List ℕ) (i : ℕ) → malformed e i ≡ false → said e i ≡ packed (record_fields (record_part e i))
unfolding malformed cell record_at
said_is e i h =
    let nets = net_count e in
    let p = record_part e i in
    by_test (breaks_layout nets p) (λ t. absurd (true≢false (rw (record_number_lem nets p, t) at h))) (λ t. ap packed (rw t at (record_values_lem nets p)))

-- twelve numbers, read from the bytes that are written for them
fields_given : (c : List ℕ) → length c ≡ 12 → packed (record_fields (record_bytes c)) ≡ c
unfolding record_fields record_bytes
fields_given c l = simp joined (bytes_whole c 12 l)

-- 24 bytes, written from the numbers that they say
fields_again : (p : List ℕ) → AllBytes p → length p ≡ 24 → record_bytes (packed (record_fields p)) ≡ p
unfolding record_fields record_bytes
fields_again p b l =
    two_again p 0 b (two_again p 2 b (two_again p 4 b (two_again p 6 b (two_again p 8 b (two_again p 10 b
    (two_again p 12 b (two_again p 14 b (two_again p 16 b (two_again p 18 b (two_again p 20 b (two_again p 22 b refl)))))))))))
    ∙ bytes_whole p 24 l

-- ---- the first law
module _ (x : Netlist) where
  abbrev n : ℕ
  n = length x.cells

  abbrev e : List ℕ
  e = exercise_sheet x

  marked : (wrong_mark 69 e ≡ false) × (wrong_version e ≡ false)
  unfolding exercise_sheet exercise_head wrong_mark wrong_version
  marked = (refl, refl)

  heads : x.nets ≤ 1024 → n ≤ 512 → exercise_number e ≡ 0
  unfolding exercise_number over_limit wrong_exercise_length
  heads nets cells =
      let size = exercise_length x in
      let long = le-ltb (length e) 9 (omega arith) in
      let limit : over_limit e ≡ false = rw (nets_back x, cells_back x, le-ltb 1024 x.nets nets, le-ltb 512 n cells) in
      let whole : wrong_exercise_length e ≡ false = rw (cells_back x, eq-eqb (length e) (record_start n) size) in
      none_broken (exercise_checks e) (long, (marked.0, (marked.1, (limit, (whole, tt)))))

  said_back : TwelveEach x → anyb (malformed e) (cell_numbers e) ≡ false → (i : ℕ) → i < n → said e i ≡ get_or x.cells i []
  unfolding TwelveEach
  said_back given formed i l =
      said_is e i (none_at (malformed e) (cell_count e) formed i (rw (cells_back x) l))
      ∙ ap (λ (p : List ℕ). packed (record_fields p)) (exercise_part x i l)
      ∙ fields_given (get_or x.cells i []) (every_at (λ (c : List ℕ). length c ≡ 12) [] x.cells given i l)

  exercise_writes : (room : ℕ) → TwelveEach x → exercise_refusal x room ≡ 0 → (length e ≤ room) × ExercisePasses e × (netlist_of e ≡ x)
  unfolding exercise_refusal ExercisePasses records_number netlist_of
  exercise_writes room given h =
      let (fits, (cells, (nets, (formed, (single, _))))) = all_held (exercise_writer_checks x room) refl h in
      let passes : ExercisePasses e = (heads (ltb-false _ _ nets) (ltb-false _ _ cells), none_broken (record_checks e) (formed, (single, tt))) in
      let same = table_is (said e) [] x.cells (said_back given formed) in
      (rw (exercise_length x) (ltb-false room (record_start n) fits), passes, rw (nets_back x, cells_back x, same))

-- ---- the second law
module _ (e : List ℕ) (b : AllBytes e) where
  head_again : wrong_mark 69 e ≡ false → wrong_version e ≡ false → 9 ≤ length e → exercise_head (net_count e) (cell_count e) ≡ take 9 e
  unfolding exercise_head
  head_again mark version long = mark_again 69 1 e b mark (version_1 e version) (two_again e 5 b (two_again e 7 b refl)) ∙ bytes_front e 9 long

  part_again : anyb (malformed e) (cell_numbers e) ≡ false → length e ≡ record_start (cell_count e)
      → (i : ℕ) → i < cell_count e → record_bytes (said e i) ≡ record_part e i
  part_again formed size i l =
      let long = length-take-le 24 (drop (record_start i) e) (rw length-drop (omega arith)) in
      ap record_bytes (said_is e i (none_at (malformed e) (cell_count e) formed i l))
      ∙ fields_again (record_part e i) (part_bytes e (record_start i) 24 b) long

  bytes_again : ExercisePasses e → exercise_sheet (netlist_of e) ≡ e
  unfolding ExercisePasses records_number netlist_of exercise_sheet
  bytes_again (number, records) =
      let (mark, version, _, _, size) = headed e number in
      let formed = (all_held (record_checks e) refl records).0 in
      rw (table_length (said e) (cell_count e), head_again mark version (omega arith))
      (sheet_again 9 24 record_bytes e (said e) (cell_count e) size (part_again formed size))

  exercise_again : (room : ℕ) → ExercisePasses e → length e ≤ room
      → (exercise_sheet (netlist_of e) ≡ e) × (exercise_refusal (netlist_of e) room ≡ 0)
  unfolding ExercisePasses records_number netlist_of exercise_refusal
  exercise_again room p roomy =
      let (_, _, nets, cells, size) = headed e p.0 in
      let (formed, (single, _)) = all_held (record_checks e) refl p.1 in
      let x = netlist_of e in
      let n = length x.cells in
      let same : exercise_sheet x ≡ e = bytes_again p in
      let count : n ≡ cell_count e = table_length (said e) (cell_count e) in
      let fits = le-ltb room (record_start n) (omega arith) in
      let few = le-ltb 512 n (omega arith) in
      let few_nets = le-ltb 1024 (net_count e) nets in
      (same, none_broken (exercise_writer_checks x room) (fits, (few, (few_nets, (rw same formed, (rw same single, tt))))))

pub exercise_laws : TwoLaws exercise_format
exercise_laws = two_laws exercise_format exercise_writes exercise_again
