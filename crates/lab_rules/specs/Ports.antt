-- Document 01, "LAB-wide signals (001, 8.2)": which ports of a LAB's cells count, and as what. `cs` are the cells of one LAB.
-- Assumes nothing.
use Rattle.std.specs.Prelude.{ℕ, ◌+◌, ◌*◌, Bool, cond, not, ◌||◌, List, [], ◌∷◌, map, eqb}
use Rattle.sheet.specs.Lists.{concat_map}
use Rattle.sheet.specs.Signal.{UNCONNECTED, GND, VCC, connected, is_net}
use Rattle.exercise.specs.declared.RegisterCell.{RegisterCell}
use Rattle.exercise.specs.declared.Record.{Record}
use Rattle.exercise.specs.declared.Record.TheVariants.{Combinational, Register, Malformed}

-- the codes at the control ports of a register
abbrev pub clk : RegisterCell → ℕ
clk r = r.clk.0

abbrev pub ena : RegisterCell → ℕ
ena r = r.ena.0

abbrev pub aclr : RegisterCell → ℕ
aclr r = r.aclr.0

abbrev pub sclr : RegisterCell → ℕ
sclr r = r.sclr.0

abbrev pub sload : RegisterCell → ℕ
sload r = r.sload.0

-- "A register is used if regout is connected"
abbrev pub used : RegisterCell → Bool
used r = connected r.regout.0

-- what counts at a port: "A connected port always counts"; on a used register an unconnected one counts as `default`, on an unused one it doesn't count
unfoldable pub counted : (RegisterCell → ℕ) → ℕ → RegisterCell → List ℕ
counted port default r = cond (connected (port r)) (port r ∷ []) (cond (used r) (default ∷ []) [])

-- "an unconnected clk counts as GND"
abbrev pub clock : RegisterCell → List ℕ
clock = counted clk GND

-- "aclr as GND"
abbrev pub clear : RegisterCell → List ℕ
clear = counted aclr GND

-- a pair of codes as one number
abbrev pub pair : ℕ → ℕ → ℕ
pair a b = 65536 * a + b

-- the (clk, ena) pair of a register whose clk counts: an unconnected ena as VCC
unfoldable pub clock_pair : RegisterCell → List ℕ
clock_pair r = map (λ c. pair c (cond (connected (ena r)) (ena r) VCC)) (clock r)

-- at sclr and sload "unconnected and GND aren't in use (000, table 3); VCC is"
abbrev pub in_use : ℕ → Bool
in_use s = not (eqb s UNCONNECTED || eqb s GND)

-- M-101: "A cell that uses either port fixes the other too, at GND when it is open or GND"
abbrev pub fixed : ℕ → ℕ
fixed s = cond (in_use s) s GND

-- the (sload, sclr) pair of a cell with these codes, where it "uses at least one of them"
unfoldable pub pair_in_use : ℕ → ℕ → List ℕ
pair_in_use load clear = cond (in_use load || in_use clear) (pair (fixed load) (fixed clear) ∷ []) []

abbrev pub synchronous : RegisterCell → List ℕ
synchronous r = pair_in_use (sload r) (sclr r)

-- a net in either polarity: "constants need no entry"
unfoldable pub needed : (RegisterCell → ℕ) → RegisterCell → List ℕ
needed port r = cond (is_net (port r)) (port r ∷ []) []

-- what f gives of a cell that is a register
abbrev pub of_register : (RegisterCell → List ℕ) → Record → List ℕ
of_register f (Register r) = f r
of_register f (Combinational c) = []
of_register f Malformed = []

-- what f gives of the registers of a LAB, in the order of its cells
unfoldable pub in_lab : (RegisterCell → List ℕ) → List Record → List ℕ
in_lab f cs = concat_map (of_register f) cs
