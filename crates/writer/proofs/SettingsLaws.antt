-- The two laws of the settings sheet's writer: what is written reads back as the same version, board and entries, and a sheet that passes 70 to
-- 75 is written again to the same bytes. Assumes nothing.
use Prim.Native.Nat.{ℕ, ◌+◌, ◌≤◌}
use mathlib.Core.Path.{◌≡◌, refl, sym, ap, ◌∙◌}
use mathlib.Core.Bool.{true, false, not, ◌&&◌, true≢false}
use mathlib.Core.List.{List, ◌∷◌}
use native.Mathlib.Omega.{arith}
use lib.ListN.{length, take}
use lib.Seq.{take_all, take-add}
use lib.Dec.{eqb}
use borrow.Author.Tests.{eq-eqb, le-ltb, eqb-true, ltb-false, not-false}
use Rattle.sheet.specs.Bytes.{byte_at, AllBytes}
use Rattle.sheet.specs.Header.{wrong_mark}
use Rattle.sheet.proofs.Checks.{none_broken, all_held}
use Rattle.sheet.proofs.Laws.{by_test, or_parts}
use Rattle.sheet.proofs.Again.{two_again, mark_again}
use Rattle.entries.specs.Table.{ENTRIES}
use Rattle.settings.specs.Settings.{version, entry_count, board, head_of, flags_start, flags}
use Rattle.settings.specs.Settings.{unknown_version, wrong_settings_length, other_flags, settings_checks, settings_number}
use Rattle.settings.proofs.Laws.{Passed, passed, flags_length}
use Rattle.writer.specs.Boards.{Board, settings_head, settings_sheet, board_of}
use Rattle.writer.specs.Boards.{wrong_board, settings_writer_checks, settings_refusal, SettingsPass}
use Rattle.writer.specs.Laws.{TwoLaws, settings_format}
use Rattle.writer.proofs.Sheets.{settings_length, version_back, count_back, flags_back}
use Rattle.writer.proofs.Again.{joined, bytes_front, two_laws}

-- ---- the board's number where 72 does not refuse it
-- a version that is known and not 2 is 1
version_left : (v : ℕ) → unknown_version v ≡ false → eqb v 2 ≡ false → eqb v 1 ≡ true
version_left v known second = by_test (eqb v 1) (λ t. t) (λ t. absurd (true≢false (rw (t, second) at known)))

-- other than in version 2 it is 0
number_left : (v number : ℕ) → wrong_board v number ≡ false → eqb v 2 ≡ false → number ≡ 0
unfolding wrong_board
number_left v number h second =
    let (known, zero) = or_parts (unknown_version v) (eqb v 1 && not (eqb number 0)) h in
    eqb-true number 0 (not-false _ (rw (version_left v known second) at zero))

-- ---- the first law
-- the head is six bytes at the least
six_fit : (version room : ℕ) → head_of version ≤ room → 6 ≤ room
six_fit version room h = by_test (eqb version 2) (λ t. let k = rw t at h in omega arith) (λ t. rw t at h)

module _ (x : Board) where
  abbrev n : ℕ
  n = length x.entries

  abbrev s : List ℕ
  s = settings_sheet x

  marked : wrong_mark 84 s ≡ false
  unfolding settings_sheet settings_head wrong_mark
  marked = refl

  number_back : wrong_board x.version x.number ≡ false → board s ≡ x.number
  unfolding settings_sheet settings_head
  number_back h =
      by_test (eqb x.version 2)
      (λ t. rw (version_back x, t) (joined x.number))
      (λ t. rw (version_back x, t) (sym (number_left x.version x.number h t)))

  passes : unknown_version x.version ≡ false → n ≤ ENTRIES → other_flags x.entries ≡ false → SettingsPass s
  unfolding SettingsPass settings_number wrong_settings_length
  passes known few roles =
      let size = settings_length x in
      let long = le-ltb (length s) 6 (six_fit x.version (length s) (omega arith)) in
      let count = le-ltb ENTRIES (entry_count s) (rw (count_back x) few) in
      let whole : wrong_settings_length s ≡ false = rw (version_back x, count_back x, eq-eqb (length s) (head_of x.version + n) size) in
      none_broken (settings_checks s) (long, (marked, (rw (version_back x) known, (count, (whole, (rw (flags_back x) roles, tt))))))

  settings_writes : (room : ℕ) → Unit {0} → settings_refusal x room ≡ 0 → (length s ≤ room) × SettingsPass s × (board_of s ≡ x)
  unfolding settings_refusal board_of wrong_board
  settings_writes room given h =
      let (right, (few, (roles, (fits, _)))) = all_held (settings_writer_checks x room) refl h in
      let known = (or_parts (unknown_version x.version) (eqb x.version 1 && not (eqb x.number 0)) right).0 in
      let same : board_of s ≡ x = rw (flags_back x, number_back right, version_back x) in
      (rw (settings_length x) (ltb-false room (head_of x.version + n) fits), passes known (ltb-false ENTRIES n few) roles, same)

-- ---- the second law
module _ (s : List ℕ) (b : AllBytes s) (p : Passed s) where
  head_again : settings_head (version s) (board s) (entry_count s) ≡ take (flags_start s) s
  unfolding settings_head
  head_again =
      by_test (eqb (version s) 2)
      (λ t. let long = rw t at p.long in
      rw t (mark_again 84 (version s) s b p.marked refl (ap (◌∷◌ (byte_at s 5)) (two_again s 6 b refl)) ∙ bytes_front s 8 (omega arith)))
      (λ t. let long = rw t at p.long in
      rw t (mark_again 84 (version s) s b p.marked refl refl ∙ bytes_front s 6 (omega arith)))

  bytes_again : settings_sheet (board_of s) ≡ s
  unfolding settings_sheet board_of
  bytes_again =
      rw (flags_length s p, head_again)
      (sym (take-add (flags_start s) (entry_count s) s) ∙ take_all (flags_start s + entry_count s) s (omega arith))

  right_again : wrong_board (version s) (board s) ≡ false
  unfolding wrong_board
  right_again =
      by_test (eqb (version s) 1)
      (λ t. let zero : board s ≡ 0 = rw (eqb-true (version s) 1 t) in rw (p.known, zero, t))
      (λ t. rw (p.known, t))

  settings_again : (room : ℕ) → length s ≤ room → (settings_sheet (board_of s) ≡ s) × (settings_refusal (board_of s) room ≡ 0)
  unfolding board_of settings_refusal
  settings_again room roomy =
      let few = le-ltb ENTRIES (length (flags s)) (rw (flags_length s p) p.few) in
      let fits = le-ltb room (flags_start s + length (flags s)) (rw (flags_length s p) (omega arith)) in
      (bytes_again, none_broken (settings_writer_checks (board_of s) room) (right_again, (few, (p.roles, (fits, tt)))))

-- 70 to 75: what is written passes them, and what passes them is written again
pub settings_laws : TwoLaws settings_format
unfolding SettingsPass
settings_laws = two_laws settings_format settings_writes (λ s b room h roomy. settings_again s b (passed s h) room roomy)
