-- Document 01, the check of one LAB on a lent list of its cell records: 18, then 70 to 75 of the settings sheet, then 60 to 65 of those cells. `s`
-- is the settings sheet, `cs` the list.
-- Assumes nothing.
use Rattle.std.specs.Prelude.{ℕ, Bool, true, false, cond, not, ◌||◌, List, ◌∷◌, ◌++◌, map, length, replicate, eqb, ltb}
use Rattle.sheet.specs.Lists.{anyb}
use Rattle.sheet.specs.Checks.{check, first_number}
use Rattle.exercise.specs.Record.{Cell, record_bytes, record_of}
use Rattle.exercise.specs.declared.Record.{Record}
use Rattle.exercise.specs.declared.Record.TheVariants.{Combinational, Register, Malformed}
use Rattle.settings.specs.Settings.{settings_checks, table_of}
use Rattle.lab_rules.specs.Rules.{LabResult, lab_checks, route_of}
use Rattle.netlist.specs.Cells.{register_checks}

-- what the record says, at 1,024 nets
unfoldable pub record_from : Cell → Record
record_from c = record_of 1024 (record_bytes c)

-- the record breaks the layout or one of 30 to 35
unfoldable pub unfit : Record → Bool
unfit (Combinational c) = false
unfit (Register r) = not (eqb (first_number (register_checks r)) 0)
unfit Malformed = true

-- 18: "the list has over 32 cells, or some record breaks the layout (at 1,024 nets) or one of 30 to 35"
unfoldable pub no_list : List Cell → Bool
no_list cs = ltb 32 (length cs) || anyb unfit (map record_from cs)

-- 18, "before all else there", or the number of 70 to 75, "in the list check after 18", or the lowest broken of 60 to 65, or 0
unfoldable pub list_number : List ℕ → List Cell → ℕ
list_number s cs = first_number (check 18 (no_list cs) ∷ settings_checks s ++ lab_checks (table_of s) (map record_from cs))

-- the number, and the LAB's eight route bytes or "eight 255s otherwise"
unfoldable pub list_verdict : List ℕ → List Cell → LabResult
list_verdict s cs = record {
  number = list_number s cs;
  bytes = cond (eqb (list_number s cs) 0) (route_of (table_of s) (map record_from cs)) (replicate 8 255);
}
