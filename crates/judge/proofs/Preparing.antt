-- What is prepared once for a settings sheet and an exercise serves every answer: what is found from it is what the first broken check of all finds. One law
-- for each way out of the functions on the way. Assumes nothing.
use Prim.Native.Nat.{ℕ, ◌≤◌, ◌<◌}
use native.Mathlib.Omega.{arith}
use mathlib.Core.Path.{◌≡◌, refl, sym, ap, ◌∙◌}
use mathlib.Core.Bool.{true, false, cond, not}
use mathlib.Core.List.{List, [], ◌++◌, map}
use lib.ListN.{length, get_or, replicate, length-replicate, get_or-replicate}
use lib.Dec.{eqb, ltb}
use borrow.Author.Tests.{eq-eqb, ne_eqb, eqb-true, eqb-false, lt-ltb, le-ltb, ltb-true}
use Rattle.sheet.specs.Checks.{NONE}
use Rattle.std.specs.Prelude.{Result, Ok, Err}
use Rattle.sheet.specs.declared.refusal.Refusal.{Refusal}
use Rattle.sheet.specs.Refusals.{number_of, told_number}
use Rattle.sheet.proofs.Refusals.{refused_number}
use Rattle.sheet.specs.Lists.{first_from, below, elemb}
use Rattle.sheet.proofs.Laws.{by_test}
use Rattle.sheet.proofs.First.{none_first}
use Rattle.exercise.specs.Exercise.{cell_count}
use Rattle.exercise.specs.passes.Known.{known_at}
use Rattle.entries.specs.Table.{Table, eight_rows}
use Rattle.route.specs.Served.{SameServed}
use Rattle.settings.specs.Settings.{settings_number, table_of}
use Rattle.settings.proofs.Laws.{same_table}
use Rattle.lab_rules.specs.Rules.{lab_tries}
use Rattle.lab_rules.specs.passes.Counts.{AllFit}
use Rattle.tables.specs.declared.Reads.{Reads}
use Rattle.tables.specs.declared.Reads.TheVariants.{Never}
use Rattle.tables.specs.passes.Tables.{reads_below, readers_below, drivers_below}
use Rattle.tables.proofs.Filled.{drivers_length}
use Rattle.netlist.specs.Cells.{cell_number}
use Rattle.netlist.specs.passes.Numbers.{number_at}
use Rattle.lab_pass.specs.passes.Links.{Links}
use Rattle.lab_pass.specs.passes.Results.{result_at, tries_at, broken_lab, LowestBroken, lowest_broken, has_cells, put_rows, put_tries, searched_labs}
use Rattle.lab_pass.proofs.Passing.{lowest_lab, lowest_number}
use Rattle.lab_pass.proofs.Rows.{rows_long}
use Rattle.lab_pass.proofs.Tried.{filled_long}
use Rattle.verdict.specs.declared.Broken.{Broken}
use Rattle.verdict.specs.declared.Broken.TheVariants as broken
use Rattle.verdict.specs.declared.Finding.{Finding}
use Rattle.verdict.specs.declared.Verdict.{Verdict}
use Rattle.judge.specs.declared.Prepared.{Prepared}
use Rattle.judge.specs.Call.{Call, call}
use Rattle.judge.specs.Judge.{room_checks, settings_group, exercise_group, answer_group, cell_group, place_group, lab_group, checks_to51, checks, lab_cells, first_broken, judged, route_bytes, routed, tries_of, tried}
use Rattle.judge.specs.Serves.{PreparedServes}
use Rattle.verdict.specs.Verdicts.{finding, legal, found, verdict_of}
use Rattle.verdict.specs.Numbers.{numbers_to51, searched_numbers}
use Rattle.judge.specs.passes.Stages.{numbered_as, numbered, numbered_lab, placed_by}
use Rattle.judge.specs.passes.Preparing.{then, early_in, prepared_for, drivers_for, found_to51, linked, found_in_labs, rows_of_labs, tries_of_labs, found_from}
use Rattle.judge.proofs.Broken.{first_append, found as true_of_found}
use Rattle.judge.proofs.Numbers.{In, all_give, every_weaker, to_51_known, to_51_numbered}
use Rattle.judge.proofs.Outcomes.{number_in}
use Rattle.judge.proofs.Groups.{then_stays, then_goes, then_first, then_second, settings_finds, early_finds, fixed_finds, cells_finds, to_51_finds}
use Rattle.judge.proofs.Numbering.{numbered_none}
use Rattle.judge.proofs.Sound.{Sound, sound_of, cells_are, places_are}
use Rattle.judge.proofs.FitCells.{lab_fit}
use Rattle.judge.proofs.LabsFound.{labs_are, routes_are}
use Rattle.judge.proofs.TriesFound.{tries_are_told}

-- ---- 70 to 75, then 10 to 16
module _ (s e : List ℕ) {A : Type 0} (x : Result A Refusal) (h : told_number x ≡ settings_number s) where
  pub early_refused : {B : Type 0} (r : Refusal) {y : Result B Broken} → x ≡ Err r → y ≡ Err (broken.Sheet r) → found y ≡ first_broken (settings_group s ++ exercise_group e)
  early_refused r p q =
      let n : settings_number s ≡ number_of r = sym h ∙ ap told_number p in
      ap found q ∙ sym (early_finds s e ∙ rw (settings_finds, n, refused_number r))

  pub early_goes : (u : A) {r : Finding} → x ≡ Ok u → r ≡ first_broken (exercise_group e) → r ≡ first_broken (settings_group s ++ exercise_group e)
  early_goes u p q =
      let n : settings_number s ≡ 0 = sym h ∙ ap told_number p in
      q ∙ sym (early_finds s e ∙ rw (settings_finds, n))

pub ruleset early_steps = (early_refused, early_goes)

-- where nothing is found there, the settings sheet passes, and so does the exercise
module _ (s e : List ℕ) (passed : (first_broken (settings_group s ++ exercise_group e)).number ≡ 0) where
  pub passed_settings : settings_number s ≡ 0
  passed_settings = ap number_in (sym (settings_finds s)) ∙ then_first (first_broken (settings_group s)) (first_broken (exercise_group e)) (rw early_finds at passed)

  pub passed_exercise : (first_broken (exercise_group e)).number ≡ 0
  passed_exercise = then_second (first_broken (settings_group s)) (first_broken (exercise_group e)) (rw early_finds at passed)

-- ---- 30 to 44, from the tables, of an exercise that passes 10 to 16
pub cells_found : (e : List ℕ) (cells : ℕ) (rs : List Reads) (rd ds start : List ℕ) (f : Finding) → (first_broken (exercise_group e)).number ≡ 0 → start ≡ replicate 1024 NONE
    → cells ≡ cell_count e → rs ≡ reads_below (known_at e) (replicate 1024 Never) cells → rd ≡ readers_below (known_at e) (replicate 1024 NONE) cells
    → ds ≡ drivers_below (known_at e) start cells → f ≡ numbered (number_at rs rd ds (known_at e)) cells
    → (f ≡ first_broken (cell_group e)) × (ds ≡ drivers_below (known_at e) (replicate 1024 NONE) (cell_count e))
cells_found e cells rs rd ds start f passed b c r0 r1 r2 found =
    let filled : ds ≡ drivers_below (known_at e) (replicate 1024 NONE) (cell_count e) = r2 ∙ rw (b, c) in
    (found ∙ rw (r0, r1, filled, c) (cells_are e [] (sound_of e passed)), filled)

-- ---- what is prepared
module _ (s e : List ℕ) (early : Finding) (x : early ≡ first_broken (settings_group s ++ exercise_group e)) where
  early_in_lem : early_in s e ≡ early
  unfolding early_in
  early_in_lem = sym x

  prepared_is : (fixed : Finding) → fixed ≡ then early (first_broken (cell_group e))
      → ◌≡◌ {A = Prepared} (record { early = early; fixed = fixed }) (prepared_for s e)
  unfolding prepared_for early_in
  prepared_is fixed h = rw (h, x) (rw (fixed_finds s e))

  pub prepare_stays : (early.number ≡ 0 → ⊥)
      → (◌≡◌ {A = Prepared} (record { early = early; fixed = early }) (prepared_for s e)) × (replicate 1024 NONE ≡ drivers_for s e)
  unfolding drivers_for
  prepare_stays h = (prepared_is early (then_stays early (first_broken (cell_group e)) h refl), rw early_in_lem (rw (ne_eqb early.number 0 h)))

  pub prepare_goes : (fixed : Finding) (ds : List ℕ) → early.number ≡ 0 → fixed ≡ first_broken (cell_group e)
      → ds ≡ drivers_below (known_at e) (replicate 1024 NONE) (cell_count e)
      → (◌≡◌ {A = Prepared} (record { early = early; fixed = fixed }) (prepared_for s e)) × (ds ≡ drivers_for s e)
  unfolding drivers_for
  prepare_goes fixed ds h f d = (prepared_is fixed (then_goes early (first_broken (cell_group e)) h f), rw early_in_lem (rw (eq-eqb early.number 0 h) d))

-- ---- what was found in the cells, otherwise 50 and 51
module _ (fixed : Finding) (ds e a : List ℕ) where
  pub placed_stays : (fixed.number ≡ 0 → ⊥) → fixed ≡ then fixed (placed_by ds (known_at e) (cell_count e) e a)
  placed_stays h = then_stays fixed _ h refl

  pub placed_goes : (cells : ℕ) {r : Finding} → fixed.number ≡ 0 → cells ≡ cell_count e → r ≡ placed_by ds (known_at e) cells e a
      → r ≡ then fixed (placed_by ds (known_at e) (cell_count e) e a)
  placed_goes cells h c q = then_goes fixed _ h (q ∙ rw c)

pub ruleset placed_steps = (placed_stays, placed_goes)

-- ---- 10 to 51 and 70 to 75 of an answer
module _ (p : Prepared) (ds e a : List ℕ) where
  pub found_early : (p.early.number ≡ 0 → ⊥) → p.early ≡ found_to51 p ds e a
  unfolding found_to51
  found_early h = then_stays p.early _ h refl

  module _ (f : Finding) (none : p.early.number ≡ 0) (x : f ≡ first_broken (answer_group e a)) where
    pub found_answer : (f.number ≡ 0 → ⊥) → f ≡ found_to51 p ds e a
    unfolding found_to51
    found_answer h = then_goes p.early _ none (then_stays (first_broken (answer_group e a)) _ (λ z. h (ap number_in x ∙ z)) x)

    pub found_placed : {r : Finding} → f.number ≡ 0 → r ≡ then p.fixed (placed_by ds (known_at e) (cell_count e) e a) → r ≡ found_to51 p ds e a
    unfolding found_to51
    found_placed kept q = then_goes p.early _ none (then_goes (first_broken (answer_group e a)) _ (ap number_in (sym x) ∙ kept) q)

pub ruleset to_51_steps = (found_early, found_answer, found_placed)

-- the same of one answer alone
module _ (s e a : List ℕ) (early : Finding) (x : early ≡ first_broken (settings_group s ++ exercise_group e)) where
  early_is : early ≡ (prepared_for s e).early
  unfolding prepared_for early_in
  early_is = x

  pub alone_early : (early.number ≡ 0 → ⊥) → early ≡ found_to51 (prepared_for s e) (drivers_for s e) e a
  alone_early h = early_is ∙ found_early (prepared_for s e) (drivers_for s e) e a (λ z. h (ap number_in early_is ∙ z))

  module _ (f : Finding) (none : early.number ≡ 0) (y : f ≡ first_broken (answer_group e a)) where
    none_early : (prepared_for s e).early.number ≡ 0
    none_early = ap number_in (sym early_is) ∙ none

    pub alone_answer : (f.number ≡ 0 → ⊥) → f ≡ found_to51 (prepared_for s e) (drivers_for s e) e a
    alone_answer h = found_answer (prepared_for s e) (drivers_for s e) e a f none_early y h

    pub alone_placed : (fixed : Finding) (ds : List ℕ) {r : Finding} → f.number ≡ 0 → fixed ≡ first_broken (cell_group e)
        → ds ≡ drivers_below (known_at e) (replicate 1024 NONE) (cell_count e) → r ≡ then fixed (placed_by ds (known_at e) (cell_count e) e a)
        → r ≡ found_to51 (prepared_for s e) (drivers_for s e) e a
    unfolding prepared_for
    alone_placed fixed ds kept c d q =
        let (made, filled) = prepare_goes s e early x fixed ds none c d in
        found_placed (prepared_for s e) (drivers_for s e) e a f none_early y kept
        (q ∙ rw (filled, ap (λ (p : Prepared). p.fixed) made))

-- ---- the table of drivers is as long as it was lent
cells_size : (e ds : List ℕ) → ds ≡ drivers_below (known_at e) (replicate 1024 NONE) (cell_count e) → 1024 ≡ length ds
cells_size e ds h = sym (rw h (drivers_length (known_at e) (replicate 1024 NONE) (cell_count e) ∙ length-replicate {A = ℕ} 1024 NONE))

pub drivers_size : (s e ds : List ℕ) → ds ≡ drivers_for s e → 1024 ≡ length ds
unfolding drivers_for
drivers_size s e ds h =
    rw h (by_test (eqb (early_in s e).number 0) (λ b. rw b (cells_size e _ refl)) (λ b. rw b (sym (length-replicate {A = ℕ} 1024 NONE))))

-- ---- 60 to 65, from the lists by LAB
module _ (t : Table) (e a : List ℕ) (cells : ℕ) (first next : List ℕ) (n : cells ≡ cell_count e)
    (x : first ≡ (linked a cells).first) (y : next ≡ (linked a cells).next)
    (l : LowestBroken) (found : l ≡ lowest_broken t (known_at e) first next) where
  abbrev lab_number : ℕ → ℕ
  lab_number k = (result_at t (known_at e) first next k).number

  at : l.lab ≡ first_from (λ k. not (eqb (lab_number k) 0)) 0 1024
  unfolding broken_lab
  at = lowest_lab t (known_at e) first next l found

  by_lists : {f : Finding} → f ≡ numbered_lab lab_number → f ≡ found_in_labs t e a
  unfolding found_in_labs
  by_lists q = q ∙ rw (x, y, n)

  pub labs_stop : l.lab < 1024 → finding l.number NONE l.lab ≡ found_in_labs t e a
  unfolding numbered_as
  labs_stop h =
      by_lists (rw (← at) (rw (lt-ltb l.lab 1024 h, lowest_number t (known_at e) first next l found h)))

  -- a LAB that is refused is one of the 1,024
  pub labs_refused : (r : Refusal) → l.number ≡ number_of r → l.lab < 1024
  unfolding lowest_broken
  labs_refused r n =
      let same : l.lab ≡ first_from (broken_lab t (known_at e) first next) 0 1024 = ap (λ (k : LowestBroken). k.lab) found in
      by_test (ltb l.lab 1024) (λ b. ltb-true l.lab 1024 b)
      (λ b. let zero : l.number ≡ 0 = ap (λ (k : LowestBroken). k.number) found ∙ rw (← same, b) in
      absurd (eqb-false (number_of r) 0 (refused_number r) (sym n ∙ zero)))

  pub labs_end : {f : Finding} → 1024 ≤ l.lab → f ≡ legal → f ≡ found_in_labs t e a
  unfolding numbered_as
  labs_end h q = by_lists (rw (← at) (rw (le-ltb l.lab 1024 h) q))

  pub rows_of_lem : (before after : List ℕ)
      → after ≡ put_rows (has_cells first next) (λ k. (result_at t (known_at e) first next k).bytes) before l.lab → after ≡ rows_of_labs t e a before
  unfolding rows_of_labs
  rows_of_lem before after p = p ∙ rw (found, x, y, n)

  pub tries_of_lem : (before after : List ℕ)
      → after ≡ put_tries (has_cells first next) (tries_at t (known_at e) first next) before (searched_labs l.lab) → after ≡ tries_of_labs t e a before
  unfolding tries_of_labs
  tries_of_lem before after p = p ∙ rw (found, x, y, n)

-- ---- the rows begin as 255s, the tries as 0s, and keep their length
abbrev blank : List ℕ
blank = replicate 8192 255

blank_size : length blank ≡ 8192
blank_size = length-replicate {A = ℕ} 8192 255

blank_bytes : (j : ℕ) → j < length blank → get_or blank j 0 ≡ 255
blank_bytes j h = get_or-replicate 8192 j 255 0 (omega (arith, blank_size))

pub rows_size : (t : Table) (e a rows : List ℕ) → rows ≡ rows_of_labs t e a blank → 8192 ≡ length rows
unfolding rows_of_labs
rows_size t e a rows p = sym (rw p (rows_long _ _ blank _ ∙ blank_size))

abbrev zeros : List ℕ
zeros = replicate 1024 0

pub tries_size : (t : Table) (e a list : List ℕ) → list ≡ tries_of_labs t e a zeros → 1024 ≡ length list
unfolding tries_of_labs
tries_size t e a list p = sym (rw p (filled_long _ _ 1024 _))

-- ---- all numbers but 1 and 3, and the rows and the tries handed out
module _ (t : Table) (p : Prepared) (ds e a : List ℕ) (f : Finding) (x : f ≡ found_to51 p ds e a) where
  pub found_stays : (f.number ≡ 0 → ⊥) → f ≡ found_from t p ds e a
  unfolding found_from
  found_stays h = then_stays (found_to51 p ds e a) _ (λ z. h (ap number_in x ∙ z)) x

  pub found_goes : {r : Finding} → f.number ≡ 0 → r ≡ found_in_labs t e a → r ≡ found_from t p ds e a
  unfolding found_from
  found_goes h q = then_goes (found_to51 p ds e a) _ (ap number_in (sym x) ∙ h) q

pub ruleset found_steps = (found_stays, found_goes)

module _ (t : Table) (e a : List ℕ) (f : Finding) (x : f ≡ found_in_labs t e a) where
  pub labs_handed : (rows counts : List ℕ) → rows ≡ rows_of_labs t e a blank → counts ≡ tries_of_labs t e a zeros
      → (route after : List ℕ) → length route ≡ 8192 → after ≡ cond (eqb (length rows) (length route)) (cond (eqb f.number 0) rows route) route
      → (list tries : List ℕ) → length list ≡ 1024 → tries ≡ cond (eqb (length counts) (length list)) (cond (elemb f.number searched_numbers) counts list) list
      → (f ≡ found_in_labs t e a) × ((after ≡ cond (eqb f.number 0) (rows_of_labs t e a blank) route)
      × (tries ≡ cond (elemb f.number searched_numbers) (tries_of_labs t e a zeros) list))
  labs_handed rows counts w k route after room p list tries slots q = (
    x,
    (
      p ∙ rw (eq-eqb (length rows) (length route) (sym (rows_size t e a rows w) ∙ sym room), w),
      q ∙ rw (eq-eqb (length counts) (length list) (sym (tries_size t e a counts k) ∙ sym slots), k),
    ),
  )

-- ---- what was prepared serves: with a route buffer and a list of tries of the right size, what is found from it is what the first broken check finds
module _ (s e a : List ℕ) (r n : ℕ) (room : r ≡ 8192) (slots : n ≡ 1024) where
  abbrev c : Call
  c = call s e a r n

  abbrev early : Finding
  early = first_broken (settings_group s ++ exercise_group e)

  abbrev later : Finding
  later = then (first_broken (answer_group e a)) (then (first_broken (cell_group e)) (first_broken (place_group e a)))

  to_51_are : first_broken (checks_to51 c) ≡ then early later
  to_51_are = to_51_finds c ∙ rw (eq-eqb r 8192 room, eq-eqb n 1024 slots)

  fixed_are : early.number ≡ 0 → first_broken ((settings_group s ++ exercise_group e) ++ cell_group e) ≡ first_broken (cell_group e)
  fixed_are h = fixed_finds s e ∙ rw (eq-eqb early.number 0 h)

  drivers_are : early.number ≡ 0 → drivers_for s e ≡ drivers_below (known_at e) (replicate 1024 NONE) (cell_count e)
  unfolding drivers_for early_in
  drivers_are h = rw (eq-eqb early.number 0 h)

  pub found_to_51 : found_to51 (prepared_for s e) (drivers_for s e) e a ≡ first_broken (checks_to51 c)
  unfolding found_to51 prepared_for early_in
  found_to_51 =
      sym (to_51_are ∙ by_test (eqb early.number 0)
      (λ b. let h = eqb-true early.number 0 b in
      rw (b, fixed_are h, drivers_are h, places_are e a (sound_of e (passed_exercise s e h))))
      (λ b. rw b))

  module _ (passed : (first_broken (checks_to51 c)).number ≡ 0) where
    past : (then early later).number ≡ 0
    past = ap number_in (sym to_51_are) ∙ passed

    sound : Sound e
    sound = sound_of e (passed_exercise s e (then_first early later past))

    served : SameServed (eight_rows (table_of s)) (table_of s)
    served = same_table s (passed_settings s e (then_first early later past))

    cell_zero : (i : ℕ) → i < cell_count e → cell_number e i ≡ 0
    cell_zero =
        let cells = then_first (first_broken (cell_group e)) (first_broken (place_group e a)) (then_second (first_broken (answer_group e a)) _ (then_second early later past)) in
        numbered_none _ (λ m i. refl) (cell_number e) (cell_count e) (rw cells_finds at cells)

    fits : (l : ℕ) → AllFit (lab_cells c l)
    unfolding cell_number
    fits = lab_fit c sound.nets cell_zero

    labs_found : found_in_labs (eight_rows (table_of s)) e a ≡ first_broken (lab_group c)
    unfolding found_in_labs
    labs_found = labs_are c sound fits (eight_rows (table_of s)) served

    tries_found : elemb (first_broken (lab_group c)).number searched_numbers ≡ true
        → tries_of_labs (eight_rows (table_of s)) e a zeros ≡ map (λ l. cond (ltb (first_broken (lab_group c)).lab l) 0 (lab_tries (table_of s) (lab_cells c l))) (below 1024)
    unfolding tries_of_labs
    tries_found kept = tries_are_told c sound fits (eight_rows (table_of s)) served kept

    module _ (kept : (first_broken (lab_group c)).number ≡ 0) where
      abbrev lists : Links
      lists = linked a (cell_count e)

      none_broken : (k : ℕ) → k < 1024 → (result_at (eight_rows (table_of s)) (known_at e) lists.first lists.next k).number ≡ 0
      unfolding found_in_labs
      none_broken =
          numbered_none (λ number lab. finding number NONE lab) (λ m i. refl) (λ k. (result_at (eight_rows (table_of s)) (known_at e) lists.first lists.next k).number) 1024
          (ap number_in labs_found ∙ kept)

      all_labs : (lowest_broken (eight_rows (table_of s)) (known_at e) lists.first lists.next).lab ≡ 1024
      unfolding broken_lab
      all_labs =
          lowest_lab (eight_rows (table_of s)) (known_at e) lists.first lists.next _ refl
          ∙ none_first (broken_lab (eight_rows (table_of s)) (known_at e) lists.first lists.next) 1024 (λ k b. rw (none_broken k b))

      rows_found : rows_of_labs (eight_rows (table_of s)) e a blank ≡ route_bytes c
      unfolding rows_of_labs
      rows_found = rw all_labs (routes_are c sound fits (eight_rows (table_of s)) served kept blank blank_bytes blank_size)

  found_all : first_broken (checks c) ≡ then (first_broken (checks_to51 c)) (first_broken (lab_group c))
  unfolding checks
  found_all = first_append (checks_to51 c) (lab_group c) (to_51_numbered c)

  pub prepared_serves : found_from (eight_rows (table_of s)) (prepared_for s e) (drivers_for s e) e a ≡ first_broken (checks c)
  unfolding found_from
  prepared_serves =
      sym (found_all ∙ rw found_to_51 (by_test (eqb (first_broken (checks_to51 c)).number 0)
      (λ b. rw (b, labs_found (eqb-true (first_broken (checks_to51 c)).number 0 b))) (λ b. rw b)))

  -- up to 51 nothing is searched
  none_searched : ((first_broken (checks_to51 c)).number ≡ 0 → ⊥) → elemb (first_broken (checks_to51 c)).number searched_numbers ≡ false
  none_searched =
      true_of_found (λ f. (f.number ≡ 0 → ⊥) → elemb f.number searched_numbers ≡ false) (λ h. absurd (h refl)) (checks_to51 c)
      (every_weaker (In numbers_to51) _ (λ k m h. all_give (λ i. elemb i searched_numbers) false numbers_to51 refl k.finding.number m) (checks_to51 c) (to_51_known c))

  -- the judge's own call: what is found, the route buffer and the list of tries after it
  abbrev Handed : Finding → List ℕ → List ℕ → List ℕ → List ℕ → Type 0
  Handed f route after list tries =
      (f ≡ first_broken (checks c)) × ((after ≡ cond (eqb f.number 0) (route_bytes c) route)
      × (tries ≡ cond (elemb f.number searched_numbers) (map (tries_of c) (below 1024)) list))

  module _ (route list : List ℕ) (f : Finding) (x : f ≡ found_to51 (prepared_for s e) (drivers_for s e) e a) where
    to_51 : f ≡ first_broken (checks_to51 c)
    to_51 = x ∙ found_to_51

    whole : first_broken (checks c) ≡ then f (first_broken (lab_group c))
    whole = found_all ∙ rw (← to_51)

    pub finding_stays : (f.number ≡ 0 → ⊥) → Handed f route route list list
    finding_stays h = (
      sym (whole ∙ rw (ne_eqb f.number 0 h)),
      (rw (ne_eqb f.number 0 h), rw (to_51, none_searched (λ z. h (ap number_in to_51 ∙ z)))),
    )

    module _ (none : f.number ≡ 0) (t : Table) (rows : t ≡ eight_rows (table_of s)) (g : Finding) (y : g ≡ found_in_labs t e a) where
      passed : (first_broken (checks_to51 c)).number ≡ 0
      passed = ap number_in (sym to_51) ∙ none

      in_labs : g ≡ first_broken (lab_group c)
      in_labs = y ∙ rw rows (labs_found passed)

      all_in_labs : first_broken (checks c) ≡ g
      all_in_labs = whole ∙ rw (eq-eqb f.number 0 none) (sym in_labs)

      route_found : eqb g.number 0 ≡ true → rows_of_labs t e a blank ≡ route_bytes c
      route_found b = rw rows (rows_found passed (ap number_in (sym in_labs) ∙ eqb-true g.number 0 b))

      list_found : elemb g.number searched_numbers ≡ true → tries_of_labs t e a zeros ≡ map (tries_of c) (below 1024)
      unfolding tries_of judged verdict_of
      list_found b = rw (rows, tries_found passed (rw in_labs at b), all_in_labs, in_labs) refl

      pub finding_goes : (after tries : List ℕ) → after ≡ cond (eqb g.number 0) (rows_of_labs t e a blank) route
          → tries ≡ cond (elemb g.number searched_numbers) (tries_of_labs t e a zeros) list → Handed g route after list tries
      finding_goes after tries w k = (
        sym all_in_labs,
        (
          w ∙ by_test (eqb g.number 0) (λ b. rw b (route_found b)) (λ b. rw b),
          k ∙ by_test (elemb g.number searched_numbers) (λ b. rw b (list_found b)) (λ b. rw b),
        ),
      )

-- the law of Serves, for a route buffer and a list of tries of the right length
pub serves_every : PreparedServes
unfolding PreparedServes
serves_every s e a = prepared_serves s e a 8192 1024 refl refl

-- ---- the whole verdict
module _ (c : Call) (before list : List ℕ) (v : Verdict) where
  abbrev Said : List ℕ → List ℕ → Type 0
  Said after tries = (v ≡ judged c) × ((after ≡ routed c before) × (tries ≡ tried c list))

  pub judge_done : (f : Finding) (after tries : List ℕ) → f ≡ first_broken (checks c) → after ≡ cond (eqb f.number 0) (route_bytes c) before
      → tries ≡ cond (elemb f.number searched_numbers) (map (tries_of c) (below 1024)) list
      → v ≡ verdict_of c.exercise c.answer f → Said after tries
  unfolding judged routed tried verdict_of
  judge_done f after tries x w k q = (rw (← x) q, (rw (← x) w, rw (← x) k))

-- 1
pub room_refused : (c : Call) → (c.room ≡ 8192 → ⊥) → finding 1 NONE NONE ≡ first_broken (checks c)
unfolding checks checks_to51 room_checks
room_refused c h = rw (ne_eqb c.room 8192 h)

-- 3
pub slots_refused : (c : Call) → c.room ≡ 8192 → (c.slots ≡ 1024 → ⊥) → finding 3 NONE NONE ≡ first_broken (checks c)
unfolding checks checks_to51 room_checks
slots_refused c r h = rw (eq-eqb c.room 8192 r, ne_eqb c.slots 1024 h)
