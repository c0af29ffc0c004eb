-- A number that stands past the end of a sheet is 0. Assumes nothing.
use Prim.Native.Nat.{ℕ, ◌+◌, ◌≤◌}
use native.Mathlib.Omega.{arith}
use mathlib.Core.Path.{◌≡◌}
use mathlib.Core.List.{List}
use lib.ListN.{length, get_or-eq_default}
use Rattle.sheet.specs.Bytes.{u16_at, u32_at}

pub u16_past : (s : List ℕ) (i : ℕ) → length s ≤ i → 0 ≡ u16_at s i
u16_past s i h = rw (get_or-eq_default s 0 h, get_or-eq_default s 0 {n = i + 1} (omega (arith, h)))

pub u32_past : (s : List ℕ) (i : ℕ) → length s ≤ i → 0 ≡ u32_at s i
u32_past s i h = rw (← u16_past s i h, ← u16_past s (i + 2) (omega arith))
