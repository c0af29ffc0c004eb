-- M-101: a LAB that keeps 63 keeps it as document 01 first had it, with sclr and sload counted apart. Assumes nothing.
use Rattle.std.specs.Prelude.{ℕ, ◌<◌, ◌≡◌, Bool, false, cond, ◌||◌, List, [], ◌∷◌, ltb}
use Rattle.sheet.specs.Lists.{Every}
use Rattle.exercise.specs.declared.RegisterCell.{RegisterCell}
use Rattle.exercise.specs.declared.Record.{Record}
use Rattle.exercise.specs.declared.Record.TheVariants.{Combinational, Register, Malformed}
use Rattle.distinct.specs.Rising.{distinct}
use Rattle.lab_rules.specs.Ports.{sclr, sload, in_use, in_lab}
use Rattle.lab_rules.specs.Rules.{too_many_synchronous}

-- the code at one of the two ports, where it is in use
unfoldable pub used_at : (RegisterCell → ℕ) → RegisterCell → List ℕ
used_at port r = cond (in_use (port r)) (port r ∷ []) []

-- document 01's 63: "more than 1 distinct sclr, or more than 1 distinct sload"
unfoldable pub too_many_apart : List Record → Bool
too_many_apart cs = ltb 1 (distinct (in_lab (used_at sclr) cs)) || ltb 1 (distinct (in_lab (used_at sload) cs))

-- codes of 16 bits, as on every sheet
abbrev pub SixteenBits : Record → Type 0
SixteenBits (Register r) = (sclr r < 65536) × (sload r < 65536)
SixteenBits (Combinational c) = Unit {0}
SixteenBits Malformed = Unit {0}

unfoldable pub Stricter : Type 0
Stricter = (cs : List Record) → Every SixteenBits cs → too_many_synchronous cs ≡ false → too_many_apart cs ≡ false
