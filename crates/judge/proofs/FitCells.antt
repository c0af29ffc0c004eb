-- A cell that keeps 30 to 44, of an exercise with at most 1,024 nets, is fit for a LAB: its signals are small, and an enable has a clock.
-- Where every cell is such a cell, the cells of each LAB are fit. Assumes nothing.
use Prim.Native.Nat.{ℕ, zero, suc, ◌+◌, ◌≤◌, ◌<◌}
use mathlib.Core.Path.{◌≡◌}
use mathlib.Core.Bool.{Bool, true, false}
use mathlib.Core.List.{List, [], ◌∷◌, map}
use native.Mathlib.Omega.{arith}
use lib.Dec.{eqb}
use borrow.Author.Rules.{rules}
use borrow.Author.Tests.{eqb-true, leb-false, not-false}
use Rattle.sheet.specs.Lists.{filterb, elemb, from}
use Rattle.sheet.specs.Checks.{first_number}
use Rattle.sheet.specs.Signal.{connected, is_net, is_bad, is_bad_output}
use Rattle.exercise.specs.Exercise.{net_count, cell_count, record_part}
use Rattle.exercise.specs.Record.{record_at}
use Rattle.exercise.specs.declared.RegisterCell.{RegisterCell}
use Rattle.exercise.specs.declared.Record.{Record}
use Rattle.exercise.specs.declared.Record.TheVariants.{Combinational, Register, Malformed}
use Rattle.sheet.proofs.Laws.{by_test}
use Rattle.lab_nets.specs.NetsIn.{inputs}
use Rattle.lab_rules.specs.Ports.{clk, ena}
use Rattle.lab_rules.specs.passes.Counts.{Fit, AllFit}
use Rattle.tables.specs.Records.{cell, all_inputs}
use Rattle.netlist.specs.Cells.{register_checks, cell_checks}
use Rattle.placing.specs.Places.{lab_at}
use Rattle.placing.specs.Members.{members}
use Rattle.judge.specs.Call.{Call}
use Rattle.judge.specs.Judge.{lab_cells}
use Rattle.judge.proofs.Broken.{held_number}
use Rattle.judge.proofs.Numbers.{elem_more}
use Rattle.tables.proofs.Decoded.{inputs_good, outputs_good, good_net, good_output}

-- ---- signals
module _ (nets s : ℕ) (few : nets ≤ 1024) where
  pub small_input : is_bad nets s ≡ false → s < 2052
  small_input h = by_test (is_net s) (λ n. omega (arith, good_net nets s h n)) (λ n. omega (arith, leb-false 4 s n))

  pub small_output : is_bad_output nets s ≡ false → s < 2052
  small_output h =
      by_test (eqb s 0) (λ q. omega (arith, eqb-true s 0 q)) (λ q. omega (arith, (good_output nets s h (rw q)).2))

-- the inputs without cin are inputs
pub input_of_all : (s : ℕ) (c : Record) → elemb s (inputs c) ≡ true → elemb s (all_inputs c) ≡ true
unfolding inputs all_inputs
input_of_all s (Combinational c) m = elem_more s (inputs (Combinational c)) (c.cin.0 ∷ []) m
input_of_all s (Register r) m = m
input_of_all s Malformed m = m

-- ---- 34
pub enable_clocked : (r : RegisterCell) → first_number (register_checks r) ≡ 0 → connected (ena r) ≡ true → connected (clk r) ≡ true
enable_clocked r h on = not-false (connected (clk r)) (rw on at (held_number 34 (register_checks r) (search rules) h))

-- ---- cells
pub cell_fit : (e : List ℕ) (i : ℕ) → net_count e ≤ 1024 → first_number (cell_checks e i) ≡ 0 → Fit (cell e i)
unfolding cell record_at cell_checks
cell_fit e i few h = record {
  small_inputs = λ s m. small_input (net_count e) s few (inputs_good (net_count e) (record_part e i) s (input_of_all s (cell e i) m));
  small_outputs = λ s m. small_output (net_count e) s few (outputs_good (net_count e) (record_part e i) s m);
  clocked = λ r q. enable_clocked r (rw q at h);
}

fit_from : (e : List ℕ) (p : ℕ → Bool) (i k : ℕ) → ((j : ℕ) → j < i + k → Fit (cell e j)) → AllFit (map (cell e) (filterb p (from i k)))
fit_from e p i zero h = tt
fit_from e p i (suc k) h =
    let rest = fit_from e p (suc i) k (λ j l. h j (omega arith)) in
    by_test (p i) (λ t. rw t (h i (omega arith), rest)) (λ t. rw t rest)

pub lab_fit : (c : Call) → net_count c.exercise ≤ 1024 → ((i : ℕ) → i < cell_count c.exercise → first_number (cell_checks c.exercise i) ≡ 0)
    → (l : ℕ) → AllFit (lab_cells c l)
unfolding lab_cells members
lab_fit c few h l =
    let e = c.exercise in
    fit_from e (λ i. eqb (lab_at c.answer i) l) 0 (cell_count e) (λ j m. cell_fit e j few (h j (omega arith)))
