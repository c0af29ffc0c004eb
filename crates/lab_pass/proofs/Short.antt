-- A LAB of five cells at the most reads 35 nets at the most, so its result and its tries are the same with no net counted; and how the loop of `is_short` goes.
-- Assumes nothing.
use Prim.Native.Nat.{ℕ, suc, ◌+◌, ◌*◌, ◌-◌, ◌≤◌, ◌<◌}
use mathlib.Core.Path.{◌≡◌, sym, ap, ◌∙◌}
use mathlib.Core.Bool.{Bool, true, false, cond, not}
use mathlib.Core.List.{List, [], ◌∷◌, map}
use native.Mathlib.Nat.{sub-zero}
use native.Mathlib.Omega.{arith}
use lib.ListN.{length, length-map, length-append, get_or}
use lib.Dec.{leb, ltb}
use borrow.Author.Tests.{lt-ltb, le-ltb, ltb-false, le-leb, lt-leb, leb-true}
use Rattle.sheet.specs.Lists.{filterb, elemb, concat_map}
use Rattle.sheet.specs.Signal.{is_net, net_of}
use Rattle.exercise.specs.declared.Record.{Record}
use Rattle.exercise.specs.declared.Record.TheVariants.{Combinational, Register, Malformed}
use Rattle.exercise.specs.Record.{outputs}
use Rattle.sheet.proofs.Laws.{by_test}
use Rattle.sheet.proofs.Lists.{filter-length}
use Rattle.distinct.specs.Rising.{rising}
use Rattle.distinct.specs.declared.LabMarks.{LabMarks}
use Rattle.distinct.specs.passes.Marks.{Marking, marking, Lower}
use Rattle.distinct.proofs.Rising.{distinct_length}
use Rattle.distinct.proofs.Nets.{lower_more}
use Rattle.entries.specs.Table.{Table}
use Rattle.lab_nets.specs.NetsIn.{inputs, nets_at, nets_in}
use Rattle.lab_nets.specs.passes.Uses.{nets_within}
use Rattle.lab_nets.proofs.Cells.{cells_lower, cells_counted}
use Rattle.lab_rules.specs.Rules.{MAX_NETS_IN}
use Rattle.lab_rules.specs.passes.Counts.{no_counts, counts_all, broken_by, result_from, tries_for, searched}
use Rattle.lab_rules.specs.declared.Counts.{Counts}
use Rattle.sheet.specs.Checks.{NONE}
use Rattle.lab_pass.specs.passes.Links.{walk}
use Rattle.lab_pass.specs.passes.Results.{marked_if, search_of, Tells}

-- ---- the reads of cells
inputs_most : (c : Record) → length (inputs c) ≤ 7
unfolding inputs
inputs_most (Combinational c) = omega arith
inputs_most (Register r) = omega arith
inputs_most Malformed = omega arith

nets_most : (c : Record) → length (nets_at (inputs c)) ≤ 7
nets_most c = rw (length-map (filterb is_net (inputs c)) net_of) (omega (arith, filter-length is_net (inputs c), inputs_most c))

reads_most : (cs : List Record) → length (concat_map (λ c. nets_at (inputs c)) cs) ≤ 7 * length cs
reads_most [] = omega arith
reads_most (c ∷ cs) =
    rw (length-append (nets_at (inputs c)) (concat_map (λ c. nets_at (inputs c)) cs)) (omega (arith, nets_most c, reads_most cs))

within_most : (cs : List Record) → length (nets_within cs) ≤ 7 * length cs
unfolding nets_within nets_in
within_most cs =
    let read : List ℕ = concat_map (λ c. nets_at (inputs c)) cs in
    let outside : ℕ → Bool = λ n. not (elemb n (concat_map (λ c. nets_at (outputs c)) cs)) in
    omega (arith, filter-length (λ n. ltb n 1024) (filterb outside (rising read)), filter-length outside (rising read), distinct_length read, reads_most cs)

-- ---- the result
nets_few : (t : Table) (k : Counts) (n : ℕ) → n ≤ MAX_NETS_IN → searched t k n ≡ searched t k 0
unfolding searched result_from tries_for broken_by
nets_few t k n h = rw (le-ltb MAX_NETS_IN n h)

-- 64: a short list keeps it
pub short_is : (t : Table) (get : ℕ → Record) (is : List ℕ) → length is ≤ 5 → searched t (counts_all no_counts (map get is)) 0 ≡ search_of t get is
unfolding search_of
short_is t get is h =
    let cs = map get is in
    sym (nets_few t (counts_all no_counts cs) (length (nets_within cs)) (omega (arith, within_most cs, length-map is get)))

-- up to the limit of 64 the number of nets makes no difference
over_is : (t : Table) (k : Counts) (n : ℕ) → searched t k (cond (ltb MAX_NETS_IN n) n 0) ≡ searched t k n
over_is t k n = by_test (ltb MAX_NETS_IN n) (λ e. rw e) (λ e. rw e (sym (nets_few t k n (ltb-false MAX_NETS_IN n e))))

-- what a list tells: its nets are counted exactly if it is not short; and the marks are no higher than the LAB's
module _ (get : ℕ → Record) (is : List ℕ) (counts : Counts) (k : counts ≡ counts_all no_counts (map get is))
    (l : LabMarks) (up : l.read < l.driven) (m₀ : List ℕ) (low : Lower 1024 l.read m₀) (m : List ℕ) (nets : ℕ) where
  abbrev Counted : Bool → Type 0
  Counted b = marking m nets ≡ marked_if b l (marking m₀ 0) (map get is)

  abbrev Told : Type 0
  Told = ((t : Table) → searched t counts nets ≡ search_of t get is) × Lower 1024 (l.driven + 1) m

  short_told : Counted false → length is ≤ 5 → Told
  unfolding marked_if
  short_told q h = (
    λ t. rw (k, ap (λ (x : Marking). x.count) q) (short_is t get is h),
    rw (ap (λ (x : Marking). x.marks) q) (lower_more 1024 l.read (l.driven + 1) m₀ (omega arith) low),
  )

  long_told : Counted true → Told
  unfolding marked_if search_of
  long_told q =
      let cs = map get is in (
        λ t. rw (k, ap (λ (x : Marking). x.count) q, cells_counted l up m₀ low cs),
        rw (ap (λ (x : Marking). x.marks) q) (cells_lower l up m₀ low cs),
      )

  pub short_tells : (b : Bool) → b ≡ leb (length is) 5 → b ≡ true → Counted false → Tells get is counts nets × Lower 1024 (l.driven + 1) m
  short_tells b e h q = let g = short_told q (leb-true (length is) 5 (sym e ∙ h)) in (record { told = g.0 }, g.1)

  pub long_tells : Counted true → (over : ℕ) → over ≡ cond (ltb MAX_NETS_IN nets) nets 0 → Tells get is counts over × Lower 1024 (l.driven + 1) m
  long_tells q over o = let g = long_told q in (record { told = λ t. rw o (over_is t counts nets) ∙ g.0 t }, g.1)

-- ---- the loop
-- the first k cells of the list are passed
pub record Passed (next : List ℕ) (n start at k : ℕ) : Type 0 where
  pub within : k ≤ n
  pub long : length (walk next start n) ≡ k + length (walk next at (n - k))

module _ (next : List ℕ) (n start : ℕ) where
  pub short_starts : Passed next n start start 0
  short_starts = record { within = omega arith; long = rw (sub-zero n) (omega arith) }

  module _ (at k : ℕ) (s : Passed next n start at k) where
    pub short_goes : (at' : ℕ) → k < n → at < length next → at' ≡ get_or next at NONE → Passed next n start at' (k + 1)
    unfolding walk
    short_goes at' h l r =
        let more : n - k ≡ suc (n - (k + 1)) = omega arith in
        let one : length (walk next at (n - k)) ≡ suc (length (walk next at' (n - (k + 1)))) = rw (more, lt-ltb at (length next) l, r) in
        record { within = omega arith; long = omega (arith, s.long) }

    pub short_stops : k ≤ 5 → walk next at (n - k) ≡ [] → true ≡ leb (length (walk next start n)) 5
    short_stops h z =
        let none : length (walk next at (n - k)) ≡ 0 = rw z in
        sym (le-leb (length (walk next start n)) 5 (omega (arith, s.long)))

    pub short_ends : 6 ≤ k → false ≡ leb (length (walk next start n)) 5
    short_ends h = sym (lt-leb (length (walk next start n)) 5 (omega (arith, s.long)))
