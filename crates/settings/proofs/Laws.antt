-- What a settings sheet is that passes 70 to 75, and the supplied one. Assumes nothing.
use Prim.Native.Nat.{ℕ, ◌+◌, ◌≤◌}
use native.Mathlib.Omega.{arith}
use mathlib.Core.Path.{◌≡◌, refl}
use mathlib.Core.Bool.{false}
use mathlib.Core.List.{List}
use lib.ListN.{length, length-map, length-take, length-drop}
use borrow.Author.Tests.{eqb-true, ltb-false, not-false}
use Rattle.sheet.specs.Header.{wrong_mark}
use Rattle.sheet.proofs.Checks.{all_held, found}
use Rattle.entries.specs.Table.{ENTRIES, house_board, eight_rows}
use Rattle.route.specs.Served.{SameServed}
use Rattle.route.proofs.AllWays.{rows_serve}
use Rattle.settings.specs.Settings.{version, entry_count, flags_start, flags, unknown_version, wrong_settings_length, other_flags, settings_checks, settings_number, table_of}
use Rattle.settings.specs.House.{house_settings, House}

-- 71 to 75
pub record Passed (s : List ℕ) : Type 0 where
  pub marked : wrong_mark 84 s ≡ false
  pub known : unknown_version (version s) ≡ false
  pub few : entry_count s ≤ ENTRIES
  pub long : length s ≡ flags_start s + entry_count s
  pub roles : other_flags (flags s) ≡ false

pub passed : (s : List ℕ) → settings_number s ≡ 0 → Passed s
unfolding settings_number wrong_settings_length
passed s h =
    let (_, (mark, (kind, (count, (size, (roles, _)))))) = all_held (settings_checks s) refl h in
    record { marked = mark; known = kind; few = ltb-false _ _ count; long = eqb-true _ _ (not-false _ size); roles = roles }

-- it has as many bytes of flags as it says
pub flags_length : (s : List ℕ) → Passed s → length (flags s) ≡ entry_count s
flags_length s p = rw (length-take, length-drop) (omega (arith, p.long))

-- its numbers are 70 and above
pub settings_high : (s : List ℕ) → (settings_number s ≡ 0 → ⊥) → 70 ≤ settings_number s
unfolding settings_number
settings_high s =
    found (λ n. (n ≡ 0 → ⊥) → 70 ≤ n) (λ d. absurd (d refl)) (settings_checks s)
    (λ _. omega arith, (λ _. omega arith, (λ _. omega arith, (λ _. omega arith, (λ _. omega arith, (λ _. omega arith, tt))))))

-- a sheet that passes has at most eight rows, so the eight that the search takes serve the same
pub table_rows : (s : List ℕ) → settings_number s ≡ 0 → length (table_of s) ≤ ENTRIES
unfolding table_of
table_rows s h = rw (length-map, length-take) (omega (arith, (passed s h).few))

pub same_table : (s : List ℕ) → settings_number s ≡ 0 → SameServed (eight_rows (table_of s)) (table_of s)
same_table s h = rows_serve (table_of s) (table_rows s h)

pub house : House
unfolding house_settings settings_number wrong_mark wrong_settings_length other_flags table_of house_board
house = record { passes = refl; of_version_1 = refl; holds_board = refl }
