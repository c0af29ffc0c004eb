-- What an exercise is that passes 10 to 14. Assumes nothing.
use Prim.Native.Nat.{ℕ, ◌≤◌}
use mathlib.Core.Path.{◌≡◌, refl}
use mathlib.Core.Bool.{false}
use mathlib.Core.List.{List}
use lib.ListN.{length}
use lib.Dec.{ltb}
use borrow.Author.Tests.{eqb-true, ltb-false, not-false}
use Rattle.sheet.specs.Header.{wrong_mark, wrong_version}
use Rattle.sheet.proofs.Laws.{or_parts}
use Rattle.sheet.proofs.Checks.{all_held}
use Rattle.exercise.specs.Exercise.{net_count, cell_count, record_start, over_limit, wrong_exercise_length, exercise_checks, exercise_number}

pub headed : (e : List ℕ) → exercise_number e ≡ 0
    → (wrong_mark 69 e ≡ false) × (wrong_version e ≡ false) × (net_count e ≤ 1024) × (cell_count e ≤ 512) × (length e ≡ record_start (cell_count e))
unfolding exercise_number over_limit wrong_exercise_length
headed e h =
    let (_, (mark, (version, (limit, (size, _))))) = all_held (exercise_checks e) refl h in
    let (nets, cells) = or_parts (ltb 1024 (net_count e)) (ltb 512 (cell_count e)) limit in
    (mark, version, ltb-false _ _ nets, ltb-false _ _ cells, eqb-true _ _ (not-false _ size))
