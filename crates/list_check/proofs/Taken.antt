-- The records of a list, taken one by one, give the verdict of the list: 18, or what the rules of a LAB say of its cells.
-- Assumes nothing.
use Prim.Native.Nat.{ℕ, ◌+◌, ◌≤◌, ◌<◌}
use mathlib.Core.Path.{◌≡◌, refl, sym, ap, ◌∙◌}
use mathlib.Core.Bool.{Bool, true, false, cond, ◌||◌, or-true}
use mathlib.Core.List.{List, [], ◌∷◌, map}
use native.Mathlib.Omega.{arith}
use native.Mathlib.Numerals.{add-one}
use lib.ListN.{length, get_or, drop, replicate}
use lib.Seq.{drop-cons, drop-length}
use lib.Dec.{eqb, ltb}
use borrow.Author.Tests.{eqb-true, eqb-false, ne_eqb, not-false, le-ltb}
use Rattle.sheet.specs.Lists.{anyb}
use Rattle.sheet.specs.Checks.{first_number}
use Rattle.exercise.specs.declared.RegisterCell.{RegisterCell}
use Rattle.exercise.specs.declared.Record.{Record}
use Rattle.exercise.specs.declared.Record.TheVariants.{Register}
use Rattle.sheet.proofs.Laws.{by_test, or_parts}
use Rattle.distinct.specs.passes.Marks.{Marking, marking, mark_all}
use Rattle.distinct.proofs.Nets.{lower_none}
use Rattle.entries.specs.Table.{Table, eight_rows}
use Rattle.settings.specs.Settings.{settings_checks, settings_number, table_of}
use Rattle.settings.proofs.Laws.{same_table}
use Rattle.sheet.proofs.Checks.{in_turn}
use Rattle.lab_nets.specs.passes.Uses.{uses_of, mark_cells, nets_within}
use Rattle.lab_nets.proofs.Cells.{marks_cons, cells_counted}
use Rattle.lab_rules.specs.Rules.{LabResult, lab_checks, lab_number, lab_result, lab_result_from}
use Rattle.lab_rules.specs.declared.Counts.{Counts}
use Rattle.lab_rules.specs.passes.Counts.{no_counts, counts_with, counts_all, refused, result_from, Fit, AllFit}
use Rattle.lab_rules.proofs.Folded.{counts_are, nets_are}
use Rattle.lab_rules.proofs.Result.{result_is}
use Rattle.lab_rules.proofs.Served.{same_result}
use Rattle.netlist.specs.Cells.{register_checks}
use Rattle.tables.proofs.Decoded.{inputs_good, outputs_good}
use Rattle.judge.proofs.FitCells.{small_input, small_output, input_of_all, enable_clocked}
use Rattle.exercise.specs.Record.{Cell, record_bytes}
use Rattle.std.specs.Prelude.{Ok, Err}
use Rattle.sheet.specs.Refusals.{number_of}
use Rattle.sheet.specs.declared.refusal.Refusal.{Refusal}
use Rattle.sheet.specs.declared.refusal.Refusal.TheVariants.{UnfitList}
use Rattle.sheet.proofs.Refusals.{refused_number}
use Rattle.distinct.specs.declared.LabMarks.{LabMarks}
use Rattle.list_check.specs.ListCheck.{record_from, unfit, no_list, list_number, list_verdict}
use Rattle.list_check.specs.passes.Fit.{fit_record}

-- ---- fit records
register_kept : (r : RegisterCell) → unfit (Register r) ≡ false → first_number (register_checks r) ≡ 0
unfolding unfit
register_kept r h = eqb-true _ _ (not-false _ h)

record_fit : (c : Cell) → unfit (record_from c) ≡ false → Fit (record_from c)
unfolding record_from
record_fit c h = record {
  small_inputs = λ s m. small_input 1024 s (omega arith) (inputs_good 1024 (record_bytes c) s (input_of_all s (record_from c) m));
  small_outputs = λ s m. small_output 1024 s (omega arith) (outputs_good 1024 (record_bytes c) s m);
  clocked = λ r q. enable_clocked r (register_kept r (rw q at h));
}

pub all_fit : (cs : List Cell) → anyb unfit (map record_from cs) ≡ false → AllFit (map record_from cs)
all_fit [] h = tt
all_fit (c ∷ cs) h =
    let g = or_parts (unfit (record_from c)) (anyb unfit (map record_from cs)) h in
    (record_fit c g.0, all_fit cs g.1)

-- ---- verdicts

-- the number of a list that passes 18: the settings sheet's, or that of a LAB with those cells
number_past_18 : (s : List ℕ) (cs : List Cell) → no_list cs ≡ false
    → list_number s cs ≡ cond (eqb (settings_number s) 0) (lab_number (table_of s) (map record_from cs)) (settings_number s)
unfolding list_number settings_number lab_number
number_past_18 s cs h = rw h (in_turn (settings_checks s) (lab_checks (table_of s) (map record_from cs)) refl)

-- a list that passes 18 beside a settings sheet that passes 70 to 75 has the result of a LAB with those cells
pub list_is_lab : (s : List ℕ) (rs : List Record) (cs : List Cell) → map record_from cs ≡ rs → no_list cs ≡ false → settings_number s ≡ 0
    → list_verdict s cs ≡ lab_result (table_of s) rs
unfolding list_verdict lab_result lab_number
list_is_lab s rs cs e h z = rw (number_past_18 s cs h, z, e)

-- beside one that does not, the settings sheet's number and eight 255s
pub list_unset : (s : List ℕ) (cs : List Cell) → no_list cs ≡ false → (settings_number s ≡ 0 → ⊥) → list_verdict s cs ≡ refused (settings_number s)
unfolding list_verdict
list_unset s cs h n =
    let number : list_number s cs ≡ settings_number s = number_past_18 s cs h ∙ rw (ne_eqb (settings_number s) 0 n) in
    rw (number, ne_eqb (settings_number s) 0 n)

-- one that does not pass 18 has 18 and eight 255s
pub list_refused : (s : List ℕ) (cs : List Cell) → no_list cs ≡ true → list_verdict s cs ≡ refused 18
unfolding list_verdict list_number
list_refused s cs h = rw h

no_list_long : (cs : List Cell) → ltb 32 (length cs) ≡ true → no_list cs ≡ true
unfolding no_list
no_list_long cs h = ap (λ (b : Bool). b || anyb unfit (map record_from cs)) h

-- 18
pub too_long : (s : List ℕ) (cs : List Cell) → ltb 32 (length cs) ≡ true → refused 18 ≡ list_verdict s cs
too_long s cs h = sym (list_refused s cs (no_list_long cs h))

taken_is : (t : Table) (rs : List Record) → AllFit rs → result_from t (counts_all no_counts rs) (length (nets_within rs)) ≡ lab_result t rs
taken_is t rs fit = rw (counts_are rs, nets_are rs fit) (result_is t rs fit)

-- ---- the loop over the records
abbrev list_marks : LabMarks
list_marks = record { read = 1; driven = 2 }

-- the records before i are fit, and those from i on add to the counts and the marks what all add to none
pub record Taken (cs : List Cell) (counts : Counts) (m : Marking) (i : ℕ) : Type 0 where
  pub within : i ≤ length cs
  pub fit : anyb unfit (map record_from cs) ≡ anyb unfit (map record_from (drop i cs))
  pub counted : counts_all no_counts (map record_from cs) ≡ counts_all counts (map record_from (drop i cs))
  pub marked : mark_cells list_marks (marking (replicate 1024 0) 0) (map record_from cs) ≡ mark_cells list_marks m (map record_from (drop i cs))

pub take_starts : (cs : List Cell) (counts : Counts) → counts ≡ no_counts → Taken cs counts (marking (replicate 1024 0) 0) 0
take_starts cs counts e = record { within = omega arith; fit = refl; counted = rw e; marked = refl }

-- a record that is fit, and one that is not
fit_is : (c : Cell) (r : Record) → Ok r ≡ fit_record c → (unfit (record_from c) ≡ false) × (r ≡ record_from c)
unfolding fit_record
fit_is c r h =
    by_test (unfit (record_from c)) (λ t. let none : Ok r ≡ Err UnfitList = rw t at h in absurd (cc)) (λ t. (t, let same : Ok r ≡ Ok (record_from c) = rw t at h in cc))

unfit_is : (c : Cell) (f : Refusal) → Err f ≡ fit_record c → (unfit (record_from c) ≡ true) × (f ≡ UnfitList)
unfolding fit_record
unfit_is c f h =
    by_test (unfit (record_from c)) (λ t. (t, let same : Err f ≡ Err UnfitList = rw t at h in cc)) (λ t. let none : Err f ≡ Ok (record_from c) = rw t at h in absurd (cc))

module _ (cs : List Cell) (counts : Counts) (m : Marking) (i : ℕ) (s : Taken cs counts m i) where
  module _ (h : i < length cs) where
    pub take_goes : (r : Record) → Ok r ≡ fit_record (get_or cs i []) → (counts' : Counts) → counts' ≡ counts_with counts r → (m' : Marking) → m' ≡ mark_all list_marks m (uses_of r)
        → Taken cs counts' m' (i + 1)
    unfolding counts_all
    take_goes r e counts' p m' q =
        let f = fit_is (get_or cs i []) r e in
        record {
          within = omega arith;
          fit = s.fit ∙ rw (drop-cons cs i [] h, f.0, add-one);
          counted = s.counted ∙ rw (drop-cons cs i [] h, add-one, p, f.1);
          marked = s.marked ∙ rw (drop-cons cs i [] h, add-one, marks_cons, q, f.1);
        }

    -- 18
    pub take_stops : (f : Refusal) → Err f ≡ fit_record (get_or cs i []) → (t : List ℕ) → lab_result_from (Err f) ≡ list_verdict t cs
    unfolding no_list
    take_stops f e t =
        let u = unfit_is (get_or cs i []) f e in
        let some : anyb unfit (map record_from cs) ≡ true = s.fit ∙ rw (drop-cons cs i [] h, u.0) in
        let broken : no_list cs ≡ true = rw some (or-true (ltb 32 (length cs))) in
        ap (λ (r : Refusal). lab_result_from (Err r)) u.1 ∙ sym (list_refused t cs broken)

  -- after the last record, of 32 at the most
  module _ (end : length cs ≤ i) (few : length cs ≤ 32) where
    none_left : drop i cs ≡ []
    none_left = let all : i ≡ length cs = omega (arith, s.within) in rw (all, drop-length)

    fit_all : anyb unfit (map record_from cs) ≡ false
    fit_all = s.fit ∙ rw none_left

    is_list : no_list cs ≡ false
    unfolding no_list
    is_list = rw (le-ltb 32 (length cs) few, fit_all)

    counts_end : counts ≡ counts_all no_counts (map record_from cs)
    unfolding counts_all
    counts_end = sym (s.counted ∙ rw none_left)

    marks_end : m ≡ mark_cells list_marks (marking (replicate 1024 0) 0) (map record_from cs)
    unfolding mark_cells mark_all
    marks_end = sym (s.marked ∙ rw none_left)

    nets_end : m.count ≡ length (nets_within (map record_from cs))
    nets_end =
        ap (λ (x : Marking). x.count) marks_end
        ∙ cells_counted list_marks (omega arith) (replicate 1024 0) (lower_none 1024 1 (omega arith)) (map record_from cs)

    -- 70 to 75
    pub settings_stop : (t : List ℕ) (f : Refusal) → number_of f ≡ settings_number t → lab_result_from (Err f) ≡ list_verdict t cs
    settings_stop t f e =
        let broken : settings_number t ≡ 0 → ⊥ = λ z. eqb-false (number_of f) 0 (refused_number f) (e ∙ z) in
        ap refused e ∙ sym (list_unset t cs is_list broken)

    -- 60 to 65
    pub list_ends : (t : List ℕ) → 0 ≡ settings_number t → (r : LabResult) → r ≡ result_from (eight_rows (table_of t)) counts m.count → r ≡ list_verdict t cs
    list_ends t e r q =
        let z = sym e in
        q ∙ rw (counts_end, nets_end) (taken_is (eight_rows (table_of t)) (map record_from cs) (all_fit cs fit_all))
        ∙ same_result (eight_rows (table_of t)) (table_of t) (same_table t z) (map record_from cs)
        ∙ sym (list_is_lab t (map record_from cs) cs refl is_list z)
