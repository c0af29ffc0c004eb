-- 15 and 16 of a sheet, by the judge's own passes. Assumes nothing.
use Prim.Native.Nat.{ℕ, ◌≤◌}
use mathlib.Core.Path.{◌≡◌, refl, sym, ap, ◌∙◌}
use mathlib.Core.Bool.{true, false, true≢false}
use mathlib.Core.List.{List}
use Rattle.std.specs.Prelude.{Option, Some, None}
use Rattle.std.specs.Option.{is_some}
use Rattle.sheet.specs.declared.CellNumber.{CellNumber}
use Rattle.sheet.specs.Lists.{anyb, first_cell}
use Rattle.exercise.specs.Exercise.{net_count, cell_count}
use Rattle.exercise.specs.passes.Known.{known_at}
use Rattle.tables.specs.Records.{cell_numbers, malformed, double_driver}
use Rattle.tables.specs.passes.Tables.{malformed_at, double_cell}
use Rattle.tables.proofs.Found.{any_cell, malformed_first, double_first}
use Rattle.writer.specs.Exercises.{records_number}

none_is : {A : Type 0} (o : Option A) → is_some o ≡ false → None ≡ o
none_is None h = refl
none_is (Some x) h = absurd (true≢false h)

module _ (e : List ℕ) (nets cells : ℕ) (fn : nets ≡ net_count e) (fc : cells ≡ cell_count e)
    (m : Option CellNumber) (fm : m ≡ first_cell (malformed_at nets e) cells) where
  found : anyb (malformed e) (cell_numbers e) ≡ is_some m
  found = any_cell (malformed e) (cell_count e) ∙ ap is_some (sym (fm ∙ malformed_first e nets cells fn fc))

  -- 15 is found by the first malformed record
  pub says_15 : is_some m ≡ true → 15 ≡ records_number e
  unfolding records_number
  says_15 h = rw (found, h)

  module _ (few : net_count e ≤ 1024) (h : is_some m ≡ false) (d : Option CellNumber) (fd : d ≡ double_cell (known_at e) cells) where
    driven : anyb (double_driver e) (cell_numbers e) ≡ is_some d
    driven =
        any_cell (double_driver e) (cell_count e)
        ∙ ap is_some (sym (fd ∙ double_first e nets cells fn fc few (none_is m h ∙ fm)))

    -- 16 is found by the first double driver
    pub says_16 : is_some d ≡ true → 16 ≡ records_number e
    unfolding records_number
    says_16 l = rw (found, h, driven, l)

    pub says_0 : is_some d ≡ false → 0 ≡ records_number e
    unfolding records_number
    says_0 l = rw (found, h, driven, l)
