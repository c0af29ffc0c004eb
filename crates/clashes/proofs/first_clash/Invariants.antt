-- The outer loop has met no clash before cell i, the inner one none of cell i with the cells before j.
use Prim.Native.Nat.{ℕ, ◌<◌}
use mathlib.Core.Path.{◌≡◌}
use mathlib.Core.Bool.{false}
use Rattle.std.specs.Prelude.{None}
use Rattle.clashes.specs.passes.Keys.{Apart}
use Rattle.clashes.proofs.first_clash.Given as goal

abbrev pub invariant-cells : goal.invariant-cells
invariant-cells g l = (l.found ≡ None) × Apart (goal.F-post g l.clash) l.from l.i

abbrev pub invariant-loop-j : goal.invariant-loop-j
invariant-loop-j g l = (l.found ≡ None) × ((j : ℕ) → j < l.j → goal.F-post g l.clash j l.i false)
