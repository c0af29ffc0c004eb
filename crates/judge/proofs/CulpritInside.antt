-- The culprit of every verdict lies inside the sheet that it names: where a check is reached, the checks before it hold, and these give the
-- sheets' lengths and the cell. Assumes nothing.
use Prim.Native.Nat.{ℕ, zero, suc, ◌+◌, ◌<◌, ◌≤◌}
use mathlib.Core.Path.{◌≡◌, refl}
use mathlib.Core.Logic.{◌⊎◌, inl, inr, ⊎_elim}
use mathlib.Core.Bool.{Bool, true, false}
use mathlib.Core.List.{List, [], ◌∷◌, ◌++◌}
use native.Mathlib.Nat.{eq-or-lt_of_le}
use native.Mathlib.Omega.{arith}
use lib.ListN.{length}
use lib.Dec.{eqb, ltb}
use borrow.Author.Rules.{rules}
use borrow.Author.Tests.{eqb-true, eqb-false, ltb-true}
use Rattle.sheet.specs.Lists.{Every, concat_map, filterb, from, below, first_from}
use Rattle.exercise.specs.Exercise.{cell_count, record_start}
use Rattle.answer.specs.Answer.{place_start}
use Rattle.exercise.specs.declared.Record.{Record}
use Rattle.exercise.specs.declared.Record.TheVariants.{Combinational, Register, Malformed}
use Rattle.sheet.proofs.Laws.{by_test}
use Rattle.entries.specs.Table.{Table}
use Rattle.route.specs.Way.{is_way, entry_lists, ways, earliest_way}
use Rattle.lab_nets.specs.NetsIn.{nets_in}
use Rattle.lab_rules.specs.Ports.{in_lab}
use Rattle.lab_rules.specs.Rules.{too_many_clocks, too_many_pairs, too_many_clears, too_many_synchronous, too_many_nets, no_way, lab_checks}
use Rattle.lab_rules.specs.Rules as rules
use Rattle.tables.specs.Records.{cell, malformed, double_driver}
use Rattle.netlist.specs.Cells.{checks_of, cell_checks}
use Rattle.placing.specs.Places.{lab_at, out_of_range_at, place_taken}
use Rattle.placing.specs.Members.{members}
use Rattle.sheet.specs.Checks.{NONE}
use Rattle.verdict.specs.declared.Fault.{Fault}
use Rattle.verdict.specs.declared.Fault.TheVariants as fault
use Rattle.verdict.specs.declared.Fault.TheVariants.{ExerciseHead, AnswerHead, Place, Lab}
use Rattle.verdict.specs.declared.Finding.{Finding}
use Rattle.verdict.specs.Numbers.{fault_of}
use Rattle.judge.specs.Call.{Call, in_force}
use Rattle.judge.specs.Judge.{Check, of_cell, of_lab, per_cell, carry_not_next, lab_cells, room_checks, settings_group, exercise_group, answer_group, cell_group, place_group, lab_group, sheet_checks, checks_to51, checks, first_broken, judged}
use Rattle.verdict.specs.Verdicts.{finding, legal, first_or, lowest_in, culprit_at, culprit_of, verdict_of}
use Rattle.judge.specs.Demands.{AllHold, LowestCell}
use Rattle.judge.specs.Culprit.{Inside, CulpritLaw}
use Rattle.judge.proofs.Broken.{found, run_finds}
use Rattle.judge.proofs.Held.{held_groups}
use Rattle.judge.proofs.Groups.{exercise_head, record_run, driver_run, answer_head, range_run, shared_run, carry_run}
use Rattle.judge.proofs.Kept.{exercise_length, answer_length, exercise_parts, answer_parts}

-- ---- what is true of the first broken check
module _ (P : Finding → Type 0) where
  -- of two lists in turn: the second one's matters where the first one's checks hold
  turn : (xs ys : List Check) → P (first_broken xs) → (AllHold xs → P (first_broken ys)) → P (first_broken (xs ++ ys))
  unfolding AllHold
  turn [] ys h g = g tt
  turn (x ∷ xs) ys h g = by_test x.broken (λ b. rw b (rw b at h)) (λ b. rw b (turn xs ys (rw b at h) (λ m. g (b, m))))

  module _ (none : P legal) where
    -- of the checks of each cell or LAB in turn
    each_from : (f : ℕ → List Check) (k i : ℕ) → ((j : ℕ) → j < i + k → P (first_broken (f j))) → P (first_broken (concat_map f (from i k)))
    each_from f zero i h = none
    each_from f (suc k) i h =
        turn (f i) (concat_map f (from (suc i) k)) (h i (omega arith)) (λ _. each_from f k (suc i) (λ j m. h j (omega arith)))

    each : (f : ℕ → List Check) (k : ℕ) → ((j : ℕ) → j < k → P (first_broken (f j))) → P (first_broken (concat_map f (below k)))
    each f k h = each_from f k 0 (λ j m. h j (omega arith))

    -- of one check for each cell
    run : (n : ℕ) (b : ℕ → Bool) (k : ℕ) → ((j : ℕ) → j < k → P (finding n j NONE)) → P (first_broken (per_cell n b (below k)))
    run n b k h =
        let i = first_from b 0 k in
        rw (run_finds n b k) (by_test (ltb i k) (λ q. rw q (h i (ltb-true i k q))) (λ q. rw q none))

-- ---- the lowest cell of a LAB
-- x is the first of the k numbers from i on that passes the test
record FirstIn (p : ℕ → Bool) (i k x : ℕ) : Type 0 where
  pub low : x < i + k
  pub passes : p x ≡ true
  pub none_before : (j : ℕ) → i ≤ j → j < x → p j ≡ false

first_in : (p : ℕ → Bool) (k i : ℕ) → (filterb p (from i k) ≡ []) ⊎ FirstIn p i k (first_or NONE (filterb p (from i k)))
first_in p zero i = inl refl
first_in p (suc k) i =
    by_test (p i) (λ b. inr (rw b (record { low = omega arith; passes = b; none_before = λ j l m. absurd (omega arith) })))
    (λ b. rw b (⊎_elim (λ q. inl q)
    (λ f. inr (record {
      low = omega (arith, f.low);
      passes = f.passes;
      none_before = λ j l m. ⊎_elim (λ q. rw (← q) b) (λ q. f.none_before j q m) (eq-or-lt_of_le l);
    }))
    (first_in p k (suc i))))

lowest_cell : (c : Call) (l : ℕ)
    → let n = cell_count c.exercise in (members c.answer n l ≡ []) ⊎ LowestCell c l (lowest_in c.answer n l)
unfolding members lowest_in
lowest_cell c l =
    let a = c.answer in
    ⊎_elim (λ q. inl q)
    (λ f. inr (record {
      is_cell = omega (arith, f.low);
      stands = eqb-true _ l f.passes;
      none_lower = λ j m. eqb-false (lab_at a j) l (f.none_before j (omega arith) m);
    }))
    (first_in (λ i. eqb (lab_at a i) l) (cell_count c.exercise) 0)

-- a LAB with no cells breaks no rule
empty_holds : (t : Table) (l : ℕ) → first_broken (of_lab l (lab_checks t [])) ≡ legal
unfolding too_many_clocks too_many_pairs too_many_clears too_many_synchronous too_many_nets no_way rules.needs nets_in in_lab earliest_way ways entry_lists is_way
empty_holds t l = refl

module _ (c : Call) where
  abbrev e : List ℕ
  e = c.exercise

  abbrev a : List ℕ
  a = c.answer

  -- what the checks before it say of a finding, by its fault: its sheet is long enough, and its cell is one of the exercise's
  abbrev pub FineAt : Finding → Fault → Type 0
  FineAt f fault.Call = Unit {0}
  FineAt f ExerciseHead = Unit {0}
  FineAt f fault.Record = (f.cell < cell_count e) × (length e ≡ record_start (cell_count e))
  FineAt f AnswerHead = Unit {0}
  FineAt f Place = (f.cell < cell_count e) × (length a ≡ place_start (cell_count e))
  FineAt f Lab = LowestCell c f.lab (lowest_in a (cell_count e) f.lab) × (length a ≡ place_start (cell_count e))

  -- of one finding, and of those of all checks of a list
  abbrev pub Fine : Finding → Type 0
  Fine f = FineAt f (fault_of f.number)

  unfoldable AllFine : List Check → Type 0
  AllFine ks = Every (λ k. Fine k.finding) ks

  legal_fine : Fine legal
  unfolding fault_of
  legal_fine = tt

  -- of what the first broken check of a list finds
  found_fine : (ks : List Check) → AllFine ks → Fine (first_broken ks)
  unfolding AllFine
  found_fine ks h = found Fine legal_fine ks h

  -- ---- the groups of checks
  -- 1
  room_fine : Fine (first_broken (room_checks c.room c.slots))
  unfolding room_checks AllFine fault_of
  room_fine = found_fine (room_checks c.room c.slots) (search rules)

  -- 70 to 75
  settings_fine : Fine (first_broken (settings_group c.settings))
  unfolding settings_group AllFine fault_of
  settings_fine = found_fine (settings_group c.settings) (search rules)

  -- 10 to 14
  exercise_head_fine : Fine (first_broken (exercise_head e))
  unfolding AllFine fault_of
  exercise_head_fine = found_fine (exercise_head e) (search rules)

  -- 20 to 25
  answer_head_fine : Fine (first_broken (answer_head e a))
  unfolding AllFine fault_of
  answer_head_fine = found_fine (answer_head e a) (search rules)

  -- where the exercise has the length that its header says
  module _ (exercise-long : length e ≡ record_start (cell_count e)) where
    -- 15 and 16
    records_fine : Fine (first_broken (record_run e ++ driver_run e))
    unfolding fault_of
    records_fine =
        turn Fine (record_run e) (driver_run e)
        (run Fine legal_fine 15 (malformed e) (cell_count e) (λ i m. search rules))
        (λ _. run Fine legal_fine 16 (double_driver e) (cell_count e) (λ i m. search rules))

    -- 30 to 44
    of_kind_fine : (i : ℕ) → i < cell_count e → (k : Record) → AllFine (of_cell i (checks_of e i k))
    unfolding AllFine fault_of
    of_kind_fine i m (Combinational k) = search rules
    of_kind_fine i m (Register k) = search rules
    of_kind_fine i m Malformed = tt

    cells_fine : Fine (first_broken (cell_group e))
    unfolding cell_group cell_checks
    cells_fine =
        each Fine legal_fine (λ i. of_cell i (cell_checks e i)) (cell_count e)
        (λ i m. found_fine (of_cell i (cell_checks e i)) (of_kind_fine i m (cell e i)))

    -- and the answer the length for the exercise's cells
    module _ (answer-long : length a ≡ place_start (cell_count e)) where
      -- 26
      ranges_fine : Fine (first_broken (range_run e a))
      unfolding fault_of
      ranges_fine = run Fine legal_fine 26 (out_of_range_at a) (cell_count e) (λ i m. search rules)

      -- 50 and 51
      places_fine : Fine (first_broken (place_group e a))
      unfolding place_group fault_of
      places_fine =
          turn Fine (shared_run e a) (carry_run e a)
          (run Fine legal_fine 50 (place_taken e a) (cell_count e) (λ i m. search rules))
          (λ _. run Fine legal_fine 51 (carry_not_next e a) (cell_count e) (λ i m. search rules))

      -- 60 to 65: a LAB with a cell, and one with none
      rules_fine : (l : ℕ) → LowestCell c l (lowest_in a (cell_count e) l) → AllFine (of_lab l (lab_checks (in_force c) (lab_cells c l)))
      unfolding AllFine fault_of
      rules_fine l m = search rules

      empty_fine : (l : ℕ) → members a (cell_count e) l ≡ [] → Fine (first_broken (of_lab l (lab_checks (in_force c) (lab_cells c l))))
      unfolding lab_cells
      empty_fine l q = rw (q, empty_holds (in_force c) l) legal_fine

      labs_fine : Fine (first_broken (lab_group c))
      unfolding lab_group
      labs_fine =
          each Fine legal_fine (λ l. of_lab l (lab_checks (in_force c) (lab_cells c l))) 1024
          (λ l _. ⊎_elim (λ q. empty_fine l q) (λ m. found_fine _ (rules_fine l m)) (lowest_cell c l))

  -- ---- the groups in turn
  long_exercise : AllHold (exercise_group e) → length e ≡ record_start (cell_count e)
  long_exercise h = exercise_length e (exercise_parts e a h).0

  long_answer : AllHold (answer_group e a) → length a ≡ place_start (cell_count e)
  long_answer h = answer_length e a (answer_parts e a h).0

  exercise_fine : Fine (first_broken (exercise_group e))
  unfolding exercise_group
  exercise_fine = turn Fine (exercise_head e) (record_run e ++ driver_run e) exercise_head_fine (λ h. records_fine (exercise_length e h))

  answer_fine : length e ≡ record_start (cell_count e) → Fine (first_broken (answer_group e a))
  unfolding answer_group
  answer_fine long = turn Fine (answer_head e a) (range_run e a) answer_head_fine (λ h. ranges_fine long (answer_length e a h))

  to_51_fine : Fine (first_broken (checks_to51 c))
  unfolding checks_to51 sheet_checks
  to_51_fine =
      turn Fine (room_checks c.room c.slots) (settings_group c.settings ++ (exercise_group e ++ (answer_group e a ++ (cell_group e ++ place_group e a)))) room_fine
      (λ _. turn Fine (settings_group c.settings) (exercise_group e ++ (answer_group e a ++ (cell_group e ++ place_group e a))) settings_fine
      (λ _. turn Fine (exercise_group e) (answer_group e a ++ (cell_group e ++ place_group e a)) exercise_fine
      (λ x. turn Fine (answer_group e a) (cell_group e ++ place_group e a) (answer_fine (long_exercise x))
      (λ y. turn Fine (cell_group e) (place_group e a) (cells_fine (long_exercise x)) (λ _. places_fine (long_exercise x) (long_answer y))))))

  pub all_fine : Fine (first_broken (checks c))
  unfolding checks
  all_fine =
      turn Fine (checks_to51 c) (lab_group c) to_51_fine
      (λ h. let g = held_groups c h in labs_fine (long_exercise g.exercise) (long_answer g.answer))

  -- ---- such a finding's culprit ends where its sheet does, or before
  inside_at : (f : Finding) (k : Fault) → FineAt f k → Inside e a (culprit_at e a f k)
  unfolding Inside
  inside_at f fault.Call h = omega arith
  inside_at f ExerciseHead h = omega arith
  inside_at f fault.Record h = omega arith
  inside_at f AnswerHead h = omega arith
  inside_at f Place h = omega arith
  inside_at f Lab h = omega (arith, h.0.is_cell)

pub culprit_inside : CulpritLaw
unfolding CulpritLaw judged verdict_of culprit_of
culprit_inside c = let f = first_broken (checks c) in inside_at c f (fault_of f.number) (all_fine c)
