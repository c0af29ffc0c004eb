-- Document 01, rule 64: which nets enter a LAB. `cs` are the cells of one LAB. Assumes nothing.
use Rattle.std.specs.Prelude.{ℕ, List, [], ◌∷◌, map}
use Rattle.sheet.specs.Lists.{concat_map, filterb}
use Rattle.sheet.specs.Signal.{is_net, net_of}
use Rattle.exercise.specs.Record.{outputs}
use Rattle.exercise.specs.declared.Record.{Record}
use Rattle.exercise.specs.declared.Record.TheVariants.{Combinational, Register, Malformed}
use Rattle.distinct.specs.Nets.{entering}

-- the codes at a cell's input ports without cin: "not counting reads at cin"
unfoldable pub inputs : Record → List ℕ
inputs (Combinational c) = c.dataa.0 ∷ c.datab.0 ∷ c.datac.0 ∷ c.datad.0 ∷ []
inputs (Register r) = r.datain.0 ∷ r.clk.0 ∷ r.ena.0 ∷ r.aclr.0 ∷ r.sclr.0 ∷ r.sload.0 ∷ r.sdata.0 ∷ []
inputs Malformed = []

-- "nets .., polarity aside"
abbrev pub nets_at : List ℕ → List ℕ
nets_at signals = map net_of (filterb is_net signals)

-- the nets that enter a LAB: "distinct nets read .. by the LAB's cells, not counting reads at cin and not counting nets driven by a cell of that LAB"
unfoldable pub nets_in : List Record → List ℕ
nets_in cs = entering (concat_map (λ c. nets_at (inputs c)) cs) (concat_map (λ c. nets_at (outputs c)) cs)
