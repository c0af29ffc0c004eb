-- Rule 51 from the table of drivers. Assumes nothing.
use Rattle.std.specs.Prelude.{ℕ, Bool, false, not, ◌&&◌, List}
use Rattle.sheet.specs.Signal.{is_net, is_inverted}
use Rattle.exercise.specs.declared.Record.{Record}
use Rattle.exercise.specs.declared.Record.TheVariants.{Combinational, Register, Malformed}
use Rattle.tables.specs.passes.Tables.{told_cell, some_cell}
use Rattle.placing.specs.Places.{follows}

-- 51 from a table that has, for each net, the cell whose cout drives it: the cell is fed and does not stand where the carry goes on
unfoldable pub detached_by : List ℕ → List ℕ → ℕ → Record → Bool
detached_by drivers a i (Combinational c) =
    is_net c.cin.0 && not (is_inverted c.cin.0) && some_cell (λ j. not (follows a j i)) (told_cell drivers c.cin.0)
detached_by drivers a i (Register r) = false
detached_by drivers a i Malformed = false

-- 51 at cell i, where `cell` gives what each cell's record says
unfoldable pub detached_at : List ℕ → List ℕ → (ℕ → Record) → ℕ → Bool
detached_at drivers a cell i = detached_by drivers a i (cell i)
