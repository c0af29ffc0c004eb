-- Document 01, "Settled examples": P1 to P12 as one list of claims about the cells of a LAB on the house board; the six lines of source 000, table 4;
-- and what M-107 lets needs of one net do. Assumes nothing.
use Rattle.std.specs.Prelude.{ℕ, ◌≡◌, List, [], ◌∷◌, length}
use Rattle.std.proofs.Math.Option.{Option, none, some}
use Rattle.sheet.specs.Lists.{Every}
use Rattle.sheet.specs.Signal.{UNCONNECTED, GND, VCC}
use Rattle.sheet.specs.declared.Signal.{Signal}
use Rattle.exercise.specs.declared.Record.{Record}
use Rattle.exercise.specs.declared.Record.TheVariants.{Register}
use Rattle.distinct.specs.Rising.{distinct}
use Rattle.entries.specs.Table.{house_board}
use Rattle.route.specs.Way.{earliest_way}
use Rattle.lab_rules.specs.Ports.{pair, clock_pair, in_lab}
use Rattle.lab_rules.specs.Rules.{needs, lab_number}

-- unconnected, the nets 0 to 5, and net 0 inverted
abbrev pub - : ℕ
- = UNCONNECTED

abbrev pub A : ℕ
A = 4

abbrev pub B : ℕ
B = 6

abbrev pub C : ℕ
C = 8

abbrev pub D : ℕ
D = 10

abbrev pub E : ℕ
E = 12

abbrev pub F : ℕ
F = 14

abbrev pub not_a : ℕ
not_a = 5

abbrev pub signal : ℕ → Signal
signal s = record { 0 = s }

-- a register that is used: net `out` is at its regout, and VCC at datain and sdata
abbrev pub register : ℕ → ℕ → ℕ → ℕ → ℕ → ℕ → Record
register out clk ena aclr sclr sload = Register (record {
  datain = signal VCC;
  clk = signal clk;
  ena = signal ena;
  aclr = signal aclr;
  sclr = signal sclr;
  sload = signal sload;
  sdata = signal VCC;
  regout = signal out;
})

-- two registers, with nets of their own at regout
abbrev pub one : ℕ → ℕ → ℕ → ℕ → ℕ → Record
one = register 22

abbrev pub other : ℕ → ℕ → ℕ → ℕ → ℕ → Record
other = register 24

-- two registers with these clk and ena
abbrev pub two : ℕ → ℕ → ℕ → ℕ → List Record
two c₁ e₁ c₂ e₂ = one c₁ e₁ - - - ∷ other c₂ e₂ - - - ∷ []

-- two registers with these sload and sclr
abbrev pub synchronous_two : ℕ → ℕ → ℕ → ℕ → List Record
synchronous_two l₁ c₁ l₂ c₂ = one D - - c₁ l₁ ∷ other D - - c₂ l₂ ∷ []

-- what an example says: the (clk, ena) pair of each register in turn, and the number of pairs; or a LAB's number of needs, its verdict and the
-- entries of its earliest way in need order; or the board's number of entries; or a LAB's verdict
pub data Claim : Type 0 where
  pairs : List Record → List ℕ → ℕ → Claim
  route : List Record → ℕ → ℕ → Option (List ℕ) → Claim
  entries : ℕ → Claim
  verdict : List Record → ℕ → Claim

abbrev pub Holds : Claim → Type 0
Holds (pairs cs ps n) = (in_lab clock_pair cs ≡ ps) × (distinct (in_lab clock_pair cs) ≡ n)
Holds (route cs k n w) = (length (needs cs) ≡ k) × (lab_number house_board cs ≡ n) × (earliest_way house_board (needs cs) ≡ w)
Holds (entries n) = length house_board ≡ n
Holds (verdict cs n) = lab_number house_board cs ≡ n

abbrev pub examples : List Claim
examples =
    pairs (two A B C D) (pair A B ∷ pair C D ∷ []) 2  -- P1
    ∷ pairs (two A B A C) (pair A B ∷ pair A C ∷ []) 2  -- P2
    ∷ pairs (two A C B C) (pair A C ∷ pair B C ∷ []) 2  -- P3
    ∷ pairs (two A B A B) (pair A B ∷ pair A B ∷ []) 1  -- P4
    ∷ pairs (two A - B -) (pair A VCC ∷ pair B VCC ∷ []) 2  -- P5
    ∷ pairs (two A - A -) (pair A VCC ∷ pair A VCC ∷ []) 1  -- P6
    ∷ pairs (two A - A B) (pair A VCC ∷ pair A B ∷ []) 2  -- P7
    ∷ pairs (two A B - -) (pair A B ∷ pair GND VCC ∷ []) 2  -- P8
    ∷ route (one A B C - - ∷ []) 3 0 (some (0 ∷ 2 ∷ 1 ∷ []))  -- P9: clk, ena, aclr
    ∷ route (one A - C - - ∷ other B - D - - ∷ []) 4 0 (some (0 ∷ 2 ∷ 1 ∷ 4 ∷ []))  -- P10: two clk, two aclr
    ∷ route (one A B C - - ∷ other D E F - - ∷ []) 6 65 none  -- P11: two clk, two ena, two aclr
    ∷ entries 6  -- P11: "though six needs meet six entries"
    ∷ route (one A - B C D ∷ other E - F - - ∷ []) 6 0 (some (0 ∷ 2 ∷ 1 ∷ 4 ∷ 5 ∷ 3 ∷ []))  -- P12: two clk, two aclr, sclr, sload
    ∷ []

-- the twelve together
unfoldable pub Settled : Type 0
Settled = Every Holds examples

-- source 000, table 4: .sload and .sclr of LE #1, then of LE #2; each "Unconnect or GND" is both
abbrev pub table4 : List Claim
table4 =
    verdict (synchronous_two A B A B) 0  -- line 1: legal
    ∷ verdict (synchronous_two A B A C) 63  -- line 2: illegal
    ∷ verdict (synchronous_two A B B A) 63  -- line 3: illegal
    ∷ verdict (synchronous_two A B - -) 0  -- line 4: legal
    ∷ verdict (synchronous_two A B - GND) 0
    ∷ verdict (synchronous_two A B GND -) 0
    ∷ verdict (synchronous_two A B GND GND) 0
    ∷ verdict (synchronous_two A B A -) 63  -- line 5: illegal
    ∷ verdict (synchronous_two A B A GND) 63
    ∷ verdict (synchronous_two A B - B) 63  -- line 6: illegal
    ∷ verdict (synchronous_two A B GND B) 63
    ∷ []

unfoldable pub Table4 : Type 0
Table4 = Every Holds table4

-- M-107, on document 01's board
abbrev pub sharing : List Claim
sharing =
    route (one A - - - - ∷ other not_a - - - - ∷ []) 2 0 (some (0 ∷ 0 ∷ []))  -- "net A and its inverse as clk now take entries 0 and 0"
    ∷ route (one A - A - - ∷ []) 2 0 (some (0 ∷ 1 ∷ []))  -- clk and aclr of one net could both take 1, and the earliest way does not
    ∷ route (one A B D - - ∷ other not_a C E - - ∷ []) 6 0 (some (0 ∷ 0 ∷ 2 ∷ 3 ∷ 1 ∷ 4 ∷ []))  -- P11 with a net and its inverse as clk
    ∷ route (one A C D E F ∷ other B - E - - ∷ []) 7 0 (some (0 ∷ 2 ∷ 3 ∷ 1 ∷ 4 ∷ 4 ∷ 5 ∷ []))  -- seven needs on six entries: aclr and sclr of E share
    ∷ []

unfoldable pub Sharing : Type 0
Sharing = Every Holds sharing
