-- Document 01, "Cells": rules 15 and 16, of the exercise `e`, and the input ports of a cell. Each rule is true where its line is; `i` is the
-- number of the cell that is looked at. Assumes nothing.
use Rattle.std.specs.Prelude.{ℕ, Bool, false, ◌&&◌, ◌||◌, List, [], ◌∷◌, eqb}
use Rattle.sheet.specs.Lists.{concat_map, filterb, below, elemb}
use Rattle.sheet.specs.Signal.{connected, is_net, net_of}
use Rattle.exercise.specs.Exercise.{net_count, cell_count}
use Rattle.exercise.specs.Record.{record_at, is_malformed, outputs}
use Rattle.exercise.specs.declared.Record.{Record}
use Rattle.exercise.specs.declared.Record.TheVariants.{Combinational, Register, Malformed}

-- cell i of the exercise
unfoldable pub cell : List ℕ → ℕ → Record
cell e i = record_at (net_count e) e i

-- the numbers of all cells
abbrev pub cell_numbers : List ℕ → List ℕ
cell_numbers e = below (cell_count e)

-- 15: "a record breaks the layout above"
unfoldable pub malformed : List ℕ → ℕ → Bool
malformed e i = is_malformed (cell e i)

-- the outputs that are connected. Outputs are uninverted nets, so two codes are equal where the nets are
unfoldable pub driven : Record → List ℕ
driven c = filterb connected (outputs c)

-- one of the outputs is among those driven before, or is an earlier one of the list
abbrev pub driven_twice : List ℕ → List ℕ → Bool
driven_twice before [] = false
driven_twice before (o ∷ os) = let later = driven_twice (o ∷ before) os in elemb o before || later

-- the outputs that the cells below i drive
abbrev pub driven_below : List ℕ → ℕ → List ℕ
driven_below e i = concat_map (λ j. driven (cell e j)) (below i)

-- 16: "an output's net is already driven by a lower cell or by an earlier output of this cell"
unfoldable pub double_driver : List ℕ → ℕ → Bool
double_driver e i = driven_twice (driven_below e i) (driven (cell e i))

-- a signal is net n, in either polarity
abbrev pub is_of : ℕ → ℕ → Bool
is_of n s = is_net s && eqb (net_of s) n

-- the codes at all input ports of a cell
unfoldable pub all_inputs : Record → List ℕ
all_inputs (Combinational c) = c.dataa.0 ∷ c.datab.0 ∷ c.datac.0 ∷ c.datad.0 ∷ c.cin.0 ∷ []
all_inputs (Register r) = r.datain.0 ∷ r.clk.0 ∷ r.ena.0 ∷ r.aclr.0 ∷ r.sclr.0 ∷ r.sload.0 ∷ r.sdata.0 ∷ []
all_inputs Malformed = []
