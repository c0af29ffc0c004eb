-- Document 01, rules 60 to 65 of one LAB, and its needs. Each rule is true where its line is. `cs` are the LAB's cells, `t` is the entry table.
-- Assumes nothing.
use Rattle.std.specs.Prelude.{ℕ, Bool, true, false, cond, List, [], ◌∷◌, ◌++◌, map, length, replicate, Result, Ok, Err, eqb, ltb}
use Rattle.std.proofs.Math.Option.{Option, none, some}
use Rattle.sheet.specs.Refusals.{number_of}
use Rattle.sheet.specs.declared.refusal.Refusal.{Refusal}
use Rattle.sheet.specs.Checks.{Check, check, first_number}
use Rattle.exercise.specs.declared.RegisterCell.{RegisterCell}
use Rattle.exercise.specs.declared.Record.{Record}
use Rattle.distinct.specs.Rising.{rising, distinct}
use Rattle.entries.specs.declared.Need.{Need}
use Rattle.entries.specs.Table.{Table, CLK, ENA, ACLR, SCLR, SLOAD}
use Rattle.route.specs.Way.{earliest_way}
use Rattle.route.specs.Route.{lab_route_of}
use Rattle.route.specs.Tries.{tries}
use Rattle.lab_nets.specs.NetsIn.{nets_in}
use Rattle.lab_rules.specs.Ports.{clk, ena, aclr, sclr, sload, clock, clock_pair, clear, synchronous, needed, in_lab}

-- 60: "more than 2 distinct clk signals"
unfoldable pub too_many_clocks : List Record → Bool
too_many_clocks cs = ltb 2 (distinct (in_lab clock cs))

-- 61: "more than 2 distinct (clk, ena) pairs, over the registers whose clk counts"
unfoldable pub too_many_pairs : List Record → Bool
too_many_pairs cs = ltb 2 (distinct (in_lab clock_pair cs))

-- 62: "more than 2 distinct aclr signals"
unfoldable pub too_many_clears : List Record → Bool
too_many_clears cs = ltb 2 (distinct (in_lab clear cs))

-- 63, as M-101 has it: "more than one distinct (sload, sclr) pair among registers that use at least one of them"
unfoldable pub too_many_synchronous : List Record → Bool
too_many_synchronous cs = ltb 1 (distinct (in_lab synchronous cs))

-- "more than 38 distinct nets"
abbrev pub MAX_NETS_IN : ℕ
MAX_NETS_IN = 38

-- 64: "more than 38 distinct nets read .."
unfoldable pub too_many_nets : List Record → Bool
too_many_nets cs = ltb MAX_NETS_IN (length (nets_in cs))

-- the needs of one role: "rising signal code"
abbrev pub needs_of_role : ℕ → List ℕ → List Need
needs_of_role role codes = map (λ s. record { role = role; signal = record { 0 = s } }) codes

-- "distinct (role, signal) pairs with a net in either polarity, found at the clk, ena, aclr, sclr and sload ports of its registers"
abbrev pub needs_at : ℕ → (RegisterCell → ℕ) → List Record → List Need
needs_at role port cs = needs_of_role role (rising (in_lab (needed port) cs))

-- "Order of needs: clk, ena, aclr, sclr, sload, then rising signal code"
unfoldable pub needs : List Record → List Need
needs cs = needs_at CLK clk cs ++ needs_at ENA ena cs ++ needs_at ACLR aclr cs ++ needs_at SCLR sclr cs ++ needs_at SLOAD sload cs

-- there is none
abbrev pub is_none : Option (List ℕ) → Bool
is_none none = true
is_none (some w) = false

-- 65: the LAB has no way, whichever entries are tried
unfoldable pub no_way : Table → List Record → Bool
no_way t cs = is_none (earliest_way t (needs cs))

-- 60 to 64
abbrev pub lab_rules : List Record → List Check
lab_rules cs =
    check 60 (too_many_clocks cs)
    ∷ check 61 (too_many_pairs cs)
    ∷ check 62 (too_many_clears cs)
    ∷ check 63 (too_many_synchronous cs)
    ∷ check 64 (too_many_nets cs)
    ∷ []

-- 60 to 65
abbrev pub lab_checks : Table → List Record → List Check
lab_checks t cs = lab_rules cs ++ check 65 (no_way t cs) ∷ []

-- the lowest broken of 60 to 65, or 0
unfoldable pub lab_number : Table → List Record → ℕ
lab_number t cs = first_number (lab_checks t cs)

-- the LAB's route bytes: "the number of the entry that the LAB's earliest way gives"
unfoldable pub route_of : Table → List Record → List ℕ
route_of t cs = (lab_route_of (needs cs) (earliest_way t (needs cs))).bytes

-- M-106: the LAB's tries, "the partial ways .. that stand at or before the answer"
unfoldable pub lab_tries : Table → List Record → ℕ
lab_tries t cs = tries t (needs cs)

-- a number, and eight bytes
pub record LabResult : Type 0 where
  pub number : ℕ
  pub bytes : List ℕ

-- the result that a call gives: the route bytes with 0, or what the LAB is refused for with "eight 255s"
abbrev pub lab_result_from : Result (List ℕ) Refusal → LabResult
lab_result_from (Ok bytes) = record { number = 0; bytes = bytes }
lab_result_from (Err r) = record { number = number_of r; bytes = replicate 8 255 }

-- the lowest broken of 60 to 65, or 0 with the LAB's eight route bytes; "eight 255s otherwise"
unfoldable pub lab_result : Table → List Record → LabResult
lab_result t cs = record { number = lab_number t cs; bytes = cond (eqb (lab_number t cs) 0) (route_of t cs) (replicate 8 255) }
