-- 30 to 44 of a cell, answered from the tables by net. `cell` gives what each cell's record says. Assumes nothing.
use Rattle.std.specs.Prelude.{ℕ, Bool, not, ◌&&◌, List, [], ◌∷◌, Option, get_or, eqb}
use Rattle.sheet.specs.Checks.{check, first_number}
use Rattle.sheet.specs.declared.CellNumber.{CellNumber}
use Rattle.sheet.specs.Signal.{connected, is_net, net_of, is_inverted}
use Rattle.exercise.specs.declared.CombinationalCell.{CombinationalCell}
use Rattle.exercise.specs.declared.Record.{Record}
use Rattle.exercise.specs.declared.Record.TheVariants.{Combinational, Register, Malformed}
use Rattle.tables.specs.declared.Reads.{Reads}
use Rattle.tables.specs.declared.Reads.TheVariants.{Never}
use Rattle.tables.specs.passes.Tables.{is_once, told_cell, some_cell}
use Rattle.netlist.specs.Cells.{register_checks, carry_in_without_flag, carry_with_datad, carry_in_with_datac}

-- there is a cell, and it is another than i
abbrev pub is_other : ℕ → Option CellNumber → Bool
is_other i found = some_cell (λ j. not (eqb j i)) found

-- 40 from the table of drivers: cin is an uninverted net that another cell's cout drives
unfoldable pub not_fed_by : List ℕ → ℕ → CombinationalCell → Bool
not_fed_by drivers i c =
    connected c.cin.0
    && not (is_net c.cin.0 && not (is_inverted c.cin.0) && is_other i (told_cell drivers c.cin.0))

-- 42 from the tables of reads and readers
unfoldable pub not_read_once_by : List Reads → List ℕ → ℕ → CombinationalCell → Bool
not_read_once_by reads readers i c =
    connected c.cout.0
    && not (is_once (get_or reads (net_of c.cout.0) Never) && is_other i (told_cell readers c.cout.0))

-- the lowest of 30 to 44 that a cell breaks, from the tables, or 0
unfoldable pub number_by : List Reads → List ℕ → List ℕ → ℕ → Record → ℕ
number_by reads readers drivers i (Combinational c) =
    first_number
    (check 40 (not_fed_by drivers i c)
    ∷ check 41 (carry_in_without_flag c)
    ∷ check 42 (not_read_once_by reads readers i c)
    ∷ check 43 (carry_with_datad c)
    ∷ check 44 (carry_in_with_datac c)
    ∷ [])
number_by reads readers drivers i (Register r) = first_number (register_checks r)
number_by reads readers drivers i Malformed = 0

-- the numbers of the sheet's cells, as `number_by` gives them
abbrev pub number_at : List Reads → List ℕ → List ℕ → (ℕ → Record) → ℕ → ℕ
number_at reads readers drivers cell i = number_by reads readers drivers i (cell i)

-- cell i breaks one of 30 to 44
unfoldable pub broken_at : List Reads → List ℕ → List ℕ → (ℕ → Record) → ℕ → Bool
broken_at reads readers drivers cell i = not (eqb (number_at reads readers drivers cell i) 0)
