-- What the tables by net and the lists by LAB say of sheets that pass the stages before: they answer document 01's rules. Assumes nothing.
use Prim.Native.Nat.{ℕ, ◌≤◌, ◌<◌}
use native.Mathlib.Omega.{arith}
use mathlib.Core.Path.{◌≡◌, refl, sym, ◌∙◌}
use mathlib.Core.Bool.{false, cond, not}
use mathlib.Core.List.{List}
use lib.ListN.{replicate}
use lib.Dec.{ltb}
use Rattle.sheet.specs.Lists.{first_from}
use Rattle.exercise.specs.Exercise.{net_count, cell_count, exercise_number}
use Rattle.exercise.proofs.Head.{headed}
use Rattle.exercise.specs.declared.Record.{Record}
use Rattle.exercise.specs.declared.Record.TheVariants.{Combinational, Register, Malformed}
use Rattle.sheet.proofs.Laws.{by_test}
use Rattle.tables.specs.Records.{cell, malformed, double_driver}
use Rattle.netlist.specs.Cells.{cell_number}
use Rattle.exercise.specs.passes.Known.{known_at}
use Rattle.sheet.specs.Checks.{NONE}
use Rattle.tables.specs.declared.Reads.TheVariants.{Never}
use Rattle.tables.specs.passes.Tables.{reads_below, readers_below, drivers_below}
use Rattle.netlist.specs.passes.Numbers.{number_at}
use Rattle.tables.proofs.Found.{known_cells}
use Rattle.tables.proofs.Same.{reads_same, readers_same, drivers_same}
use Rattle.tables.proofs.Filled.{reads, readers, drivers}
use Rattle.netlist.proofs.Carry.{fed_by, number_is}
use Rattle.placing.specs.Places.{follows}
use Rattle.placing.specs.passes.Detached.{detached_by, detached_at}
use Rattle.verdict.specs.declared.Finding.{Finding}
use Rattle.judge.specs.Judge.{stands_apart, carry_not_next, exercise_group, cell_group, place_group, first_broken}
use Rattle.verdict.specs.Verdicts.{finding, legal}
use Rattle.judge.specs.passes.Stages.{numbered, at_cell, placed_by}
use Rattle.sheet.proofs.First.{first_below, none_below}
use Rattle.judge.proofs.Numbering.{numbered_same}
use Rattle.judge.proofs.Groups.{then_first, then_second, exercise_finds, cells_finds, places_finds}

-- what 13, 15 and 16 say, as far as the tables need it
pub record Sound (e : List ℕ) : Type 0 where
  pub nets : net_count e ≤ 1024
  pub cells : cell_count e ≤ 512
  pub known : (i : ℕ) → i < cell_count e → known_at e i ≡ cell e i
  pub single : (i : ℕ) → i < cell_count e → double_driver e i ≡ false

module _ (e a : List ℕ) (s : Sound e) where
  detached_cell : (i : ℕ) (c : Record) → detached_by (drivers e 1024 (cell_count e)) a i c ≡ stands_apart e a i c
  unfolding detached_by
  detached_cell i (Combinational c) = sym (fed_by e s.nets s.cells s.single c.cin.0 (λ j. not (follows a j i)))
  detached_cell i (Register r) = refl
  detached_cell i Malformed = refl

  -- 51
  pub detached_is : (i : ℕ) → i < cell_count e → detached_at (drivers e 1024 (cell_count e)) a (known_at e) i ≡ carry_not_next e a i
  unfolding detached_at carry_not_next
  detached_is i b = rw (s.known i b) (detached_cell i (cell e i))

  -- 30 to 44
  pub numbers_are : (i : ℕ) → i < cell_count e
      → number_at (reads e 1024 (cell_count e)) (readers e 1024 (cell_count e)) (drivers e 1024 (cell_count e)) (known_at e) i ≡ cell_number e i
  numbers_are i h = rw (s.known i h) (number_is e s.nets s.cells s.single i h)

  abbrev table_of : {A : Type 0} → ((ℕ → Record) → List A → ℕ → List A) → A → List A
  table_of below start = below (known_at e) (replicate 1024 start) (cell_count e)

  pub cells_are : numbered (number_at (table_of reads_below Never) (table_of readers_below NONE) (table_of drivers_below NONE) (known_at e)) (cell_count e) ≡ first_broken (cell_group e)
  cells_are =
      rw (reads_same (known_at e) (cell e) (replicate 1024 Never) (cell_count e) s.known, readers_same (known_at e) (cell e) (replicate 1024 NONE) (cell_count e) s.known, drivers_same (known_at e) (cell e) (replicate 1024 NONE) (cell_count e) s.known)
      (numbered_same _ _ (cell_number e) (cell_count e) numbers_are ∙ sym (cells_finds e))

  -- 50 and 51
  pub places_are : placed_by (table_of drivers_below NONE) (known_at e) (cell_count e) e a ≡ first_broken (place_group e a)
  unfolding placed_by
  places_are =
      let same = first_below (detached_at (drivers e 1024 (cell_count e)) a (known_at e)) (carry_not_next e a) (cell_count e) detached_is in
      rw (drivers_same (known_at e) (cell e) (replicate 1024 NONE) (cell_count e) s.known, same) (sym (places_finds e a))

-- ---- what passing the stages says
-- a run whose number is not 0 and that finds nothing came to its end
run_passed : (n i k : ℕ) (g : Finding) → (n ≡ 0 → ⊥) → (cond (ltb i k) (finding n i NONE) g).number ≡ 0 → (ltb i k ≡ false) × (g.number ≡ 0)
run_passed n i k g d h = by_test (ltb i k) (λ t. absurd (d (rw t at h))) (λ t. (t, rw t at h))

-- 13 holds
pub limits : (e : List ℕ) → exercise_number e ≡ 0 → (net_count e ≤ 1024) × (cell_count e ≤ 512)
limits e h = let (_, _, nets, cells, _) = headed e h in (nets, cells)

pub number_passed : (e : List ℕ) → (first_broken (exercise_group e)).number ≡ 0 → exercise_number e ≡ 0
number_passed e h = then_first (finding (exercise_number e) NONE NONE) _ (rw exercise_finds at h)

pub sound_of : (e : List ℕ) → (first_broken (exercise_group e)).number ≡ 0 → Sound e
sound_of e h =
    let n = number_passed e h in
    let l = limits e n in
    let r = then_second (finding (exercise_number e) NONE NONE) _ (rw exercise_finds at h) in
    let n15 = first_from (malformed e) 0 (cell_count e) in
    let n16 = first_from (double_driver e) 0 (cell_count e) in
    let m = run_passed 15 n15 (cell_count e) (at_cell 16 n16 (cell_count e)) (λ z. omega arith) r in
    let d = run_passed 16 n16 (cell_count e) legal (λ z. omega arith) m.1 in
    record { nets = l.0; cells = l.1; known = known_cells e m.0; single = none_below (double_driver e) (cell_count e) d.0 }
