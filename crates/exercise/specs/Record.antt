-- A cell's record: "24 bytes a cell: kind, flag, eleven signals". Assumes nothing.
use Rattle.std.specs.Prelude.{ℕ, ◌+◌, ◌*◌, Bool, cond, not, ◌&&◌, ◌||◌, List, [], ◌∷◌, map, length, get_or, eqb, ltb}
use Rattle.sheet.specs.Lists.{concat_map, below}
use Rattle.sheet.specs.Bytes.{byte_at, u16_at, u16_bytes}
use Rattle.sheet.specs.Signal.{connected, is_bad, is_bad_output}
use Rattle.exercise.specs.Exercise.{record_part}
use Rattle.sheet.specs.declared.Signal.{Signal}
use Rattle.exercise.specs.declared.CombinationalCell.{CombinationalCell}
use Rattle.exercise.specs.declared.RegisterCell.{RegisterCell}
use Rattle.exercise.specs.declared.Record.{Record}
use Rattle.exercise.specs.declared.Record.TheVariants.{Combinational, Register, Malformed}

-- a cell as a caller gives it, twelve 16-bit numbers: kind and flag, which are the low and the high byte of the first, and eleven signals
abbrev pub Cell : Type 0
Cell = List ℕ

-- "24 bytes a cell: kind, flag, eleven signals", "Numbers are little-endian"
unfoldable pub record_bytes : Cell → List ℕ
record_bytes c = concat_map (λ j. u16_bytes (get_or c j 0)) (below 12)

abbrev pub kind_of : List ℕ → ℕ
kind_of p = byte_at p 0

abbrev pub flag_of : List ℕ → ℕ
flag_of p = byte_at p 1

-- signal j of the eleven
abbrev pub code_at : List ℕ → ℕ → ℕ
code_at p j = u16_at p (2 + 2 * j)

abbrev pub signal_at : List ℕ → ℕ → Signal
signal_at p j = record { 0 = code_at p j }

-- "Kind 1, combinational: dataa, datab, datac, datad, cin, combout, cout"; flag 1 says sum_lutc_input = cin
abbrev pub combinational_of : List ℕ → CombinationalCell
combinational_of p = record {
  sums_cin = eqb (flag_of p) 1;
  dataa = signal_at p 0;
  datab = signal_at p 1;
  datac = signal_at p 2;
  datad = signal_at p 3;
  cin = signal_at p 4;
  combout = signal_at p 5;
  cout = signal_at p 6;
}

-- "Kind 2, register: datain, clk, ena, aclr, sclr, sload, sdata, regout"
abbrev pub register_of : List ℕ → RegisterCell
register_of p = record {
  datain = signal_at p 0;
  clk = signal_at p 1;
  ena = signal_at p 2;
  aclr = signal_at p 3;
  sclr = signal_at p 4;
  sload = signal_at p 5;
  sdata = signal_at p 6;
  regout = signal_at p 7;
}

-- a signal of a combinational cell is bad, at an input or at an output
unfoldable pub bad_combinational : ℕ → CombinationalCell → Bool
bad_combinational nets c =
    is_bad nets c.dataa.0
    || is_bad nets c.datab.0
    || is_bad nets c.datac.0
    || is_bad nets c.datad.0
    || is_bad nets c.cin.0
    || is_bad_output nets c.combout.0
    || is_bad_output nets c.cout.0

-- a signal of a register is bad, at an input or at an output
unfoldable pub bad_register : ℕ → RegisterCell → Bool
bad_register nets c =
    is_bad nets c.datain.0
    || is_bad nets c.clk.0
    || is_bad nets c.ena.0
    || is_bad nets c.aclr.0
    || is_bad nets c.sclr.0
    || is_bad nets c.sload.0
    || is_bad nets c.sdata.0
    || is_bad_output nets c.regout.0

-- one of the last three signals, which no kind uses, is not zero
unfoldable pub bad_tail : List ℕ → Bool
bad_tail p = connected (code_at p 8) || connected (code_at p 9) || connected (code_at p 10)

-- "dataa, .., cout, then four zeros. Flag 0 or 1"
unfoldable pub keeps_combinational : ℕ → List ℕ → Bool
keeps_combinational nets p =
    not (ltb 1 (flag_of p) || bad_combinational nets (combinational_of p) || connected (code_at p 7) || bad_tail p)

-- "datain, .., regout, then three zeros. Flag 0"
unfoldable pub keeps_register : ℕ → List ℕ → Bool
keeps_register nets p = not (ltb 0 (flag_of p) || bad_register nets (register_of p) || bad_tail p)

-- a part is not 24 bytes long, or its kind is neither 1 nor 2, or it does not keep the layout of its kind
unfoldable pub breaks_layout : ℕ → List ℕ → Bool
breaks_layout nets p =
    not (eqb (length p) 24) || not (eqb (kind_of p) 1 && keeps_combinational nets p || eqb (kind_of p) 2 && keeps_register nets p)

-- "kind, flag, eleven signals" of a part, as thirteen numbers
unfoldable pub record_fields : List ℕ → List ℕ
record_fields p = kind_of p ∷ flag_of p ∷ map (code_at p) (below 11)

-- what a record says: the cell of its kind, or that it breaks the layout. A part that is not 24 bytes long is no record
unfoldable pub record_of : ℕ → List ℕ → Record
record_of nets p =
    cond (not (eqb (length p) 24)) Malformed
    (cond (eqb (kind_of p) 1) (cond (keeps_combinational nets p) (Combinational (combinational_of p)) Malformed)
    (cond (eqb (kind_of p) 2) (cond (keeps_register nets p) (Register (register_of p)) Malformed)
    Malformed))

-- cell i of an exercise with so many nets
unfoldable pub record_at : ℕ → List ℕ → ℕ → Record
record_at nets e i = record_of nets (record_part e i)

-- "kind, flag, eleven signals" of a cell: as in its record
abbrev pub combinational_values : CombinationalCell → List ℕ
combinational_values c =
    1 ∷ cond c.sums_cin 1 0
    ∷ c.dataa.0 ∷ c.datab.0 ∷ c.datac.0 ∷ c.datad.0 ∷ c.cin.0 ∷ c.combout.0 ∷ c.cout.0
    ∷ 0 ∷ 0 ∷ 0 ∷ 0 ∷ []

abbrev pub register_values : RegisterCell → List ℕ
register_values r =
    2 ∷ 0
    ∷ r.datain.0 ∷ r.clk.0 ∷ r.ena.0 ∷ r.aclr.0 ∷ r.sclr.0 ∷ r.sload.0 ∷ r.sdata.0 ∷ r.regout.0
    ∷ 0 ∷ 0 ∷ 0 ∷ []

-- document 01's number for each case of a record, 0 for a cell: 15, "a record breaks the layout above"
abbrev pub record_number : Record → ℕ
record_number (Combinational c) = 0
record_number (Register r) = 0
record_number Malformed = 15

-- its values for each case: those of the cell, none of a record that breaks the layout
abbrev pub record_values : Record → List ℕ
record_values (Combinational c) = combinational_values c
record_values (Register r) = register_values r
record_values Malformed = []

-- 15 is a record's number
abbrev pub is_malformed : Record → Bool
is_malformed c = not (eqb (record_number c) 0)

-- the codes at a cell's outputs
unfoldable pub outputs : Record → List ℕ
outputs (Combinational c) = c.combout.0 ∷ c.cout.0 ∷ []
outputs (Register r) = r.regout.0 ∷ []
outputs Malformed = []
