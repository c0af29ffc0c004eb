-- What the list check says of any list, read from its records and the table in force: over all ways, and whatever the order of the records. `s` is
-- the settings sheet, `cs` the list. Assumes nothing.
use Rattle.std.specs.Prelude.{ℕ, ◌≤◌, ◌≡◌, ◌↔◌, true, false, replicate}
use mathlib.Core.List.{List, map, Permᴰ}
use Rattle.sheet.specs.Checks.{first_number}
use Rattle.exercise.specs.Record.{Cell}
use Rattle.exercise.specs.declared.Record.{Record}
use Rattle.entries.specs.declared.Need.{Need}
use Rattle.settings.specs.Settings.{settings_number, table_of}
use Rattle.route.specs.Way.{Way}
use Rattle.route.specs.Route.{HoldsEarliest}
use Rattle.lab_rules.specs.Rules.{needs, lab_rules}
use Rattle.list_check.specs.ListCheck.{record_from, no_list, list_verdict}

-- "The list's cells count as the LAB's": the cells, and their needs
abbrev pub cells_of : List Cell → List Record
cells_of cs = map record_from cs

abbrev pub list_needs : List Cell → List Need
list_needs cs = needs (cells_of cs)

-- none of 18, 70 to 75 and 60 to 64 is broken
abbrev pub KeepsTo64 : List ℕ → List Cell → Type 0
KeepsTo64 s cs = (no_list cs ≡ false) × (settings_number s ≡ 0) × (first_number (lab_rules (cells_of cs)) ≡ 0)

pub record ListDemand (s : List ℕ) (cs : List Cell) : Type 0 where
  -- 18 exactly if the list is no LAB's
  pub refusal_18 : ((list_verdict s cs).number ≡ 18) ↔ (no_list cs ≡ true)
  -- a number from 70 on exactly if 18 holds and the settings sheet has it
  pub refusal_70s : (n : ℕ) → 70 ≤ n → ((list_verdict s cs).number ≡ n) ↔ ((no_list cs ≡ false) × (settings_number s ≡ n))
  -- 65 exactly if these and 60 to 64 hold and there is no way at all
  pub refusal_65 : ((list_verdict s cs).number ≡ 65) ↔ (KeepsTo64 s cs × ((w : List ℕ) → Way (table_of s) (list_needs cs) w → ⊥))
  -- 0 exactly if they hold and there is a way
  pub legal : ((list_verdict s cs).number ≡ 0) ↔ (KeepsTo64 s cs × ((w : List ℕ) × Way (table_of s) (list_needs cs) w))
  -- "0 with the LAB's eight route bytes (eight 255s otherwise)"
  pub earliest : (list_verdict s cs).number ≡ 0 → HoldsEarliest (table_of s) (list_needs cs) (list_verdict s cs).bytes
  pub otherwise_255 : ((list_verdict s cs).number ≡ 0 → ⊥) → (list_verdict s cs).bytes ≡ replicate 8 255
  -- the records in another order get the same
  pub any_order : (ds : List Cell) → Permᴰ cs ds → list_verdict s cs ≡ list_verdict s ds

-- THE THEOREM, for every settings sheet and every list
unfoldable pub AnyList : Type 0
AnyList = (s : List ℕ) (cs : List Cell) → ListDemand s cs
