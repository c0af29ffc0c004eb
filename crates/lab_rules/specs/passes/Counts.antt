-- What is kept of a LAB's cells while they are handed over one by one, and what follows from it. Assumes nothing.
use Rattle.std.specs.Prelude.{ℕ, ◌/◌, ◌%◌, ◌<◌, ◌≡◌, true, cond, ◌&&◌, List, [], ◌∷◌, ◌++◌, map, replicate, Result, eqb, ltb}
use Rattle.sheet.specs.Lists.{filterb, Every, elemb}
use Rattle.sheet.specs.declared.refusal.Refusal.{Refusal}
use Rattle.sheet.specs.Checks.{check, first_number}
use Rattle.sheet.specs.Signal.{connected, is_net}
use Rattle.exercise.specs.Record.{outputs}
use Rattle.exercise.specs.declared.RegisterCell.{RegisterCell}
use Rattle.exercise.specs.declared.Record.{Record}
use Rattle.exercise.specs.declared.Record.TheVariants.{Register}
use Rattle.distinct.specs.Rising.{rising}
use Rattle.distinct.specs.passes.UpToTwo.{count_of, with_codes, up_to_two, codes_of}
use Rattle.distinct.specs.declared.UpToTwo.{UpToTwo}
use Rattle.distinct.specs.declared.UpToTwo.TheVariants.{Empty, One, Two, More}
use Rattle.entries.specs.declared.Need.{Need}
use Rattle.entries.specs.declared.Needs.{Needs}
use Rattle.entries.specs.Table.{with_need, Table, CLK, ENA, ACLR, SCLR, SLOAD}
use Rattle.route.specs.Way.{earliest_way}
use Rattle.route.specs.Route.{LabRoute, lab_route_of}
use Rattle.route.specs.declared.Search.{Search}
use Rattle.route.specs.Tries.{tries}
use Rattle.lab_nets.specs.NetsIn.{inputs}
use Rattle.lab_rules.specs.declared.Counts.{Counts}
use Rattle.lab_rules.specs.Ports.{clk, ena, clock, clock_pair, clear, synchronous, needed, of_register, in_lab}
use Rattle.lab_rules.specs.Rules.{MAX_NETS_IN, needs_of_role, LabResult, lab_result_from}

abbrev pub no_counts : Counts
no_counts = record { clocks = Empty; pairs = Empty; clears = Empty; synchronous = Empty; enables = Empty }

-- one cell more
unfoldable pub counts_with : Counts → Record → Counts
counts_with k c = record {
  clocks = with_codes k.clocks (of_register clock c);
  pairs = with_codes k.pairs (of_register clock_pair c);
  clears = with_codes k.clears (of_register clear c);
  synchronous = with_codes k.synchronous (of_register synchronous c);
  enables = with_codes k.enables (of_register (needed ena) c);
}

-- the cells of a list, one after the other
unfoldable pub counts_all : Counts → List Record → Counts
counts_all k [] = k
counts_all k (c ∷ cs) = counts_all (counts_with k c) cs

-- what the counts of a LAB's cells are
unfoldable pub counts_of : List Record → Counts
counts_of cs = record {
  clocks = up_to_two (rising (in_lab clock cs));
  pairs = up_to_two (rising (in_lab clock_pair cs));
  clears = up_to_two (rising (in_lab clear cs));
  synchronous = up_to_two (rising (in_lab synchronous cs));
  enables = up_to_two (rising (in_lab (needed ena) cs));
}

-- the lowest of 60 to 64 that counts and a number of nets break, or 0
unfoldable pub broken_by : Counts → ℕ → ℕ
broken_by k nets =
    first_number
    (check 60 (ltb 2 (count_of k.clocks))
    ∷ check 61 (ltb 2 (count_of k.pairs))
    ∷ check 62 (ltb 2 (count_of k.clears))
    ∷ check 63 (ltb 1 (count_of k.synchronous))
    ∷ check 64 (ltb MAX_NETS_IN nets)
    ∷ [])

-- the codes that are nets
abbrev pub net_codes : List ℕ → List ℕ
net_codes codes = filterb (λ s. is_net s && ltb s 65536) codes

-- the one code that a counter holds
unfoldable pub only_code : UpToTwo → List ℕ
only_code Empty = []
only_code (One a) = a ∷ []
only_code (Two a b) = []
only_code More = []

-- the codes of a pair
abbrev pub first : ℕ → ℕ
first p = p / 65536

abbrev pub second : ℕ → ℕ
second p = p % 65536

-- the needs that counts hold, two at the most of clk, ena and aclr, one of sclr and sload
unfoldable pub needs_held : Counts → List Need
needs_held k =
    needs_of_role CLK (net_codes (codes_of k.clocks))
    ++ needs_of_role ENA (net_codes (codes_of k.enables))
    ++ needs_of_role ACLR (net_codes (codes_of k.clears))
    ++ needs_of_role SCLR (net_codes (map second (only_code k.synchronous)))
    ++ needs_of_role SLOAD (net_codes (map first (only_code k.synchronous)))

-- needs one after the other
unfoldable pub with_needs : Needs → List Need → Needs
with_needs n [] = n
with_needs n (x ∷ xs) = with_needs (with_need n x) xs

abbrev pub refused : ℕ → LabResult
refused n = record { number = n; bytes = replicate 8 255 }

abbrev pub routed_result : LabRoute → LabResult
routed_result r = cond r.found (record { number = 0; bytes = r.bytes }) (refused 65)

-- the result of a LAB from its counts and its number of nets
unfoldable pub result_from : Table → Counts → ℕ → LabResult
result_from t k nets =
    cond (eqb (broken_by k nets) 0) (routed_result (lab_route_of (needs_held k) (earliest_way t (needs_held k))))
    (refused (broken_by k nets))

-- the tries of a LAB from its counts and its number of nets: none where it breaks one of 60 to 64
unfoldable pub tries_for : Table → Counts → ℕ → ℕ
tries_for t k nets = cond (eqb (broken_by k nets) 0) (tries t (needs_held k)) 0

-- a result, and the tries
pub record LabSearch : Type 0 where
  pub result : LabResult
  pub tries : ℕ

-- those that a call gives
abbrev pub lab_search_from : Search (Result (List ℕ) Refusal) → LabSearch
lab_search_from s = record { result = lab_result_from s.found; tries = s.tries }

-- both
unfoldable pub searched : Table → Counts → ℕ → LabSearch
searched t k nets = record { result = result_from t k nets; tries = tries_for t k nets }

-- what 15 (at no more than 1,024 nets) and 34 say of a cell: its signals are small, and an enable has a clock
pub record Fit (c : Record) : Type 0 where
  pub small_inputs : (s : ℕ) → elemb s (inputs c) ≡ true → s < 2052
  pub small_outputs : (s : ℕ) → elemb s (outputs c) ≡ true → s < 2052
  pub clocked : (r : RegisterCell) → c ≡ Register r → connected (ena r) ≡ true → connected (clk r) ≡ true

abbrev pub AllFit : List Record → Type 0
AllFit = Every Fit
