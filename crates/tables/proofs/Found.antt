-- What the passes of 15 and 16 find in an exercise: the first cell that breaks the rule. Assumes nothing.
use Prim.Native.Nat.{ℕ, ◌≤◌, ◌<◌}
use native.Mathlib.Omega.{arith}
use mathlib.Core.Path.{◌≡◌, sym, ap, ◌∙◌}
use mathlib.Core.Bool.{Bool, false}
use mathlib.Core.List.{List}
use lib.ListN.{replicate}
use lib.Dec.{ltb}
use Rattle.std.specs.Prelude.{None}
use Rattle.std.specs.Option.{is_some}
use Rattle.sheet.specs.Lists.{first_from, first_cell, anyb, below}
use Rattle.sheet.proofs.Laws.{by_test}
use Rattle.sheet.proofs.Scan.{any_below}
use Rattle.sheet.proofs.First.{none_below}
use Rattle.exercise.specs.Exercise.{net_count, cell_count}
use Rattle.exercise.specs.passes.Known.{known_at}
use Rattle.exercise.proofs.Known.{known_is}
use Rattle.tables.specs.Records.{cell, malformed, double_driver}
use Rattle.tables.specs.passes.Tables.{malformed_at, double_number, double_cell}
use Rattle.tables.proofs.Double.{double_is}
use Rattle.tables.proofs.Same.{double_same}

-- where 15 holds, the records are known
pub known_cells : (e : List ℕ) → ltb (first_from (malformed e) 0 (cell_count e)) (cell_count e) ≡ false → (i : ℕ) → i < cell_count e → known_at e i ≡ cell e i
unfolding malformed cell
known_cells e h i b = known_is (net_count e) e i (none_below (malformed e) (cell_count e) h i b)

-- a test holds at some cell exactly where the first such cell is found
pub any_cell : (f : ℕ → Bool) (n : ℕ) → anyb f (below n) ≡ is_some (first_cell f n)
any_cell f n = any_below f n ∙ by_test (ltb (first_from f 0 n) n) (λ t. rw t) (λ t. rw t)

no_cell_found : (f : ℕ → Bool) (n : ℕ) → None ≡ first_cell f n → ltb (first_from f 0 n) n ≡ false
no_cell_found f n h = sym (any_below f n) ∙ any_cell f n ∙ ap is_some (sym h)

module _ (e : List ℕ) (nets cells : ℕ) (n : nets ≡ net_count e) (c : cells ≡ cell_count e) where
  -- 15
  pub malformed_first : first_cell (malformed_at nets e) cells ≡ first_cell (malformed e) (cell_count e)
  unfolding malformed_at malformed cell
  malformed_first = rw (n, c)

  -- 16, where 15 holds
  pub double_first : net_count e ≤ 1024 → None ≡ first_cell (malformed_at nets e) cells → double_cell (known_at e) cells ≡ first_cell (double_driver e) (cell_count e)
  double_first few h =
      let known = known_cells e (no_cell_found (malformed e) (cell_count e) (h ∙ malformed_first)) in
      let same : double_number (known_at e) cells ≡ first_from (double_driver e) 0 cells =
      double_same (known_at e) (cell e) (replicate 1024 false) 0 cells (λ j _ q. known j (omega arith)) ∙ double_is e cells few in
      rw (same, c)
