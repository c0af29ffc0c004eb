-- Tables by net, filled cell by cell, from which rules 16, 40, 42 and 51 are answered without a search. `cell` gives what each
-- cell's record says, `n` is the count that the pass is given. Assumes nothing.
use Rattle.std.specs.Prelude.{ℕ, zero, suc, Bool, true, false, cond, ◌&&◌, ◌||◌, List, [], ◌∷◌, Option, Some, None, map, get_or, set, replicate, eqb, ltb}
use Rattle.sheet.specs.Checks.{NONE}
use Rattle.sheet.specs.Signal.{is_net, net_of}
use Rattle.sheet.specs.declared.CellNumber.{CellNumber}
use Rattle.exercise.specs.Record.{record_at, is_malformed, outputs}
use Rattle.exercise.specs.declared.Record.{Record}
use Rattle.exercise.specs.declared.Record.TheVariants.{Combinational, Register, Malformed}
use Rattle.tables.specs.declared.Reads.{Reads}
use Rattle.tables.specs.declared.Reads.TheVariants.{Never, Once, More}
use Rattle.tables.specs.Records.{all_inputs}

-- how often a net is read, with one read more
abbrev pub one_more : Reads → Reads
one_more Never = Once
one_more Once = More
one_more More = More

abbrev pub is_once : Reads → Bool
is_once Never = false
is_once Once = true
is_once More = false

-- one read more of a signal's net. A net past the table leaves no trace
unfoldable pub read_once : List Reads → ℕ → List Reads
read_once t s = cond (is_net s) (set t (net_of s) (one_more (get_or t (net_of s) Never))) t

unfoldable pub read_each : List Reads → List ℕ → List Reads
read_each t [] = t
read_each t (s ∷ ss) = read_each (read_once t s) ss

-- the cell that reads a net at cin, the last one where there are several
abbrev pub with_reader : List ℕ → ℕ → Record → List ℕ
with_reader t i (Combinational c) = cond (is_net c.cin.0) (set t (net_of c.cin.0) i) t
with_reader t i (Register r) = t
with_reader t i Malformed = t

-- the cell whose cout drives a net, the last one where there are several
abbrev pub with_driver : List ℕ → ℕ → Record → List ℕ
with_driver t i (Combinational c) = cond (is_net c.cout.0) (set t (net_of c.cout.0) i) t
with_driver t i (Register r) = t
with_driver t i Malformed = t

-- the tables after the cells below n of the sheet e
unfoldable pub reads_below : (ℕ → Record) → List Reads → ℕ → List Reads
reads_below cell t zero = t
reads_below cell t (suc n) = read_each (reads_below cell t n) (all_inputs (cell n))

unfoldable pub readers_below : (ℕ → Record) → List ℕ → ℕ → List ℕ
readers_below cell t zero = t
readers_below cell t (suc n) = with_reader (readers_below cell t n) n (cell n)

unfoldable pub drivers_below : (ℕ → Record) → List ℕ → ℕ → List ℕ
drivers_below cell t zero = t
drivers_below cell t (suc n) = with_driver (drivers_below cell t n) n (cell n)

-- the cell at the net of a signal, and NONE past the table
abbrev pub cell_for : List ℕ → ℕ → ℕ
cell_for t s = get_or t (net_of s) NONE

-- the same, where NONE is no cell
abbrev pub told_cell : List ℕ → ℕ → Option CellNumber
told_cell t s = cond (eqb (cell_for t s) NONE) None (Some (record { 0 = cell_for t s }))

-- there is a cell, and it passes the test
abbrev pub some_cell : (ℕ → Bool) → Option CellNumber → Bool
some_cell p None = false
some_cell p (Some j) = p j.0

-- ---- 15
unfoldable pub malformed_at : ℕ → List ℕ → ℕ → Bool
malformed_at nets e i = is_malformed (record_at nets e i)

-- ---- 16

-- an output's net is marked already
unfoldable pub is_marked : List Bool → ℕ → Bool
is_marked t s = is_net s && get_or t (net_of s) false

unfoldable pub with_mark : List Bool → ℕ → List Bool
with_mark t s = cond (is_net s) (set t (net_of s) true) t

-- one of the outputs is marked already, or by an earlier one of the list
unfoldable pub marked_twice : List Bool → List ℕ → Bool
marked_twice t [] = false
marked_twice t (o ∷ os) = let later = marked_twice (with_mark t o) os in is_marked t o || later

unfoldable pub mark_each : List Bool → List ℕ → List Bool
mark_each t [] = t
mark_each t (o ∷ os) = mark_each (with_mark t o) os

-- of the k cells from i on, the first that drives a marked net, or i + k; each cell marks what it drives
unfoldable pub double_from : (ℕ → Record) → List Bool → ℕ → ℕ → ℕ
double_from cell t i zero = i
double_from cell t i (suc k) =
    cond (marked_twice t (outputs (cell i))) i (double_from cell (mark_each t (outputs (cell i))) (suc i) k)

-- the first of n cells that drives a net which it or a lower cell drives already; no net is marked before
abbrev pub double_number : (ℕ → Record) → ℕ → ℕ
double_number cell n = double_from cell (replicate 1024 false) 0 n

abbrev pub double_cell : (ℕ → Record) → ℕ → Option CellNumber
double_cell cell n = cond (ltb (double_number cell n) n) (Some (record { 0 = double_number cell n })) None
