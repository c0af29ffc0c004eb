-- One law for each way out of a stage: what the calls answered on the way gives what the stage is to find. Assumes nothing.
use Prim.Native.Nat.{ℕ, min}
use native.Mathlib.Omega.{arith}
use mathlib.Core.Path.{◌≡◌, sym, ap, ◌∙◌}
use mathlib.Core.Bool.{Bool, true, false, cond, true≢false}
use mathlib.Core.List.{List, [], ◌∷◌}
use lib.ListN.{length}
use lib.Dec.{ltb}
use borrow.Author.Tests.{eq-eqb, ne_eqb}
use Rattle.std.specs.Prelude.{Option, Some, None, Result, Ok, Err}
use Rattle.sheet.specs.declared.CellNumber.{CellNumber}
use Rattle.sheet.specs.declared.refusal.Refusal.{Refusal}
use Rattle.sheet.specs.Refusals.{number_of, told_number}
use Rattle.sheet.proofs.Refusals.{refused_number}
use Rattle.sheet.proofs.First.{some_below}
use Rattle.sheet.specs.Lists.{first_from, first_cell}
use Rattle.sheet.specs.Bytes.{begins_at}
use Rattle.exercise.specs.Exercise.{net_count, cell_count, exercise_number}
use Rattle.answer.specs.Answer.{answer_number, place_count, wrong_answer_length}
use Rattle.sheet.proofs.Laws.{by_test}
use Rattle.tables.specs.declared.Reads.{Reads}
use Rattle.tables.specs.Records.{cell, malformed, double_driver}
use Rattle.sheet.specs.Checks.{NONE}
use Rattle.tables.specs.passes.Tables.{malformed_at, double_cell}
use Rattle.netlist.specs.passes.Numbers.{number_by, number_at, broken_at}
use Rattle.placing.specs.Places.{out_of_range_at, place_taken}
use Rattle.placing.specs.passes.Detached.{detached_at}
use Rattle.exercise.specs.passes.Known.{known_at}
use Rattle.exercise.specs.declared.Record.{Record}
use Rattle.verdict.specs.declared.Broken.{Broken}
use Rattle.verdict.specs.declared.Broken.TheVariants as broken
use Rattle.verdict.specs.declared.Finding.{Finding}
use Rattle.verdict.specs.declared.Part.{Part}
use Rattle.verdict.specs.declared.Verdict.{Verdict}
use Rattle.judge.specs.Call.{call}
use Rattle.judge.specs.Judge.{exercise_group, answer_group, first_broken, judged, routed, tried}
use Rattle.verdict.specs.Verdicts.{finding, legal, found, bytes_of, address_of, numbers_of}
use Rattle.judge.specs.Culprit.{Inside, CulpritLaw}
use Rattle.judge.specs.passes.Preparing.{then}
use Rattle.judge.specs.passes.Stages.{numbered_as, numbered, placed_by, cell_finding}
use Rattle.judge.proofs.Outcomes.{chain_stays, chain_goes, cell_at, cell_then, none_found}
use Rattle.judge.proofs.Groups.{then_goes, exercise_finds, answer_finds}
use Rattle.judge.proofs.CulpritInside.{culprit_inside}
use Rattle.tables.proofs.Found.{malformed_first, double_first}
use Rattle.judge.proofs.Sound.{limits}

no_some : (i : CellNumber) → None ≡ Some i → ⊥
no_some i h = cc

abbrev cell_number_in : Option CellNumber → ℕ
cell_number_in None = 0
cell_number_in (Some i) = i.0

-- ---- 10 to 16
module _ (e : List ℕ) where
  exercise_then : first_broken (exercise_group e)
      ≡ then (finding (exercise_number e) NONE NONE)
      (then (cell_finding 15 (first_cell (malformed e) (cell_count e))) (cell_finding 16 (first_cell (double_driver e) (cell_count e))))
  exercise_then =
      exercise_finds e
      ∙ sym (ap (then (finding (exercise_number e) NONE NONE))
      (cell_then 15 (malformed e) (cell_count e) (cell_finding 16 (first_cell (double_driver e) (cell_count e))) (λ z. omega arith)
      ∙ ap (cond (ltb (first_from (malformed e) 0 (cell_count e)) (cell_count e)) (finding 15 (first_from (malformed e) 0 (cell_count e)) NONE)) (cell_at 16 (double_driver e) (cell_count e))))

  module _ {A : Type 0} (x : Result A Refusal) (head : told_number x ≡ exercise_number e) where
    pub exercise_refused : {B : Type 0} (r : Refusal) {y : Result B Broken} → x ≡ Err r → y ≡ Err (broken.Sheet r) → found y ≡ first_broken (exercise_group e)
    exercise_refused r p q =
        let n : exercise_number e ≡ number_of r = sym head ∙ ap told_number p in
        ap found q ∙ sym (exercise_then ∙ rw (n, refused_number r))

    module _ {C : Type 0} (u : A) (none : x ≡ Ok u) (nets cells : ℕ) (n : nets ≡ net_count e) (c : cells ≡ cell_count e)
        (i : Option CellNumber) (at : i ≡ first_cell (malformed_at nets e) cells) (z : Result C Broken) (refused : found z ≡ cell_finding 15 i) where
      passed : exercise_number e ≡ 0
      passed = sym head ∙ ap told_number none

      malformed_found : found z ≡ cell_finding 15 (first_cell (malformed e) (cell_count e))
      malformed_found = refused ∙ ap (cell_finding 15) (at ∙ malformed_first e nets cells n c)

      after_head : first_broken (exercise_group e)
          ≡ then (cell_finding 15 (first_cell (malformed e) (cell_count e))) (cell_finding 16 (first_cell (double_driver e) (cell_count e)))
      after_head = exercise_then ∙ rw passed

      -- 15
      pub exercise_malformed : {B : Type 0} (b : Broken) {y : Result B Broken} → z ≡ Err b → y ≡ Err b → found y ≡ first_broken (exercise_group e)
      exercise_malformed b p q = chain_stays _ _ z b malformed_found p q ∙ sym after_head

      -- 16
      pub exercise_driven : (v : C) (d : Option CellNumber) {r : Finding} → z ≡ Ok v → d ≡ double_cell (known_at e) cells → r ≡ cell_finding 16 d
          → r ≡ first_broken (exercise_group e)
      exercise_driven v d p t q =
          let none_malformed : None ≡ first_cell (malformed_at nets e) cells = none_found 15 i (λ h. omega arith) (sym (ap found p) ∙ refused) ∙ at in
          let double : d ≡ first_cell (double_driver e) (cell_count e) = t ∙ double_first e nets cells n c (limits e passed).0 none_malformed in
          chain_goes _ _ z v malformed_found p (q ∙ ap (cell_finding 16) double) ∙ sym after_head

pub ruleset exercise_steps = (exercise_refused, exercise_malformed, exercise_driven)

-- ---- 20 to 26
module _ (e a : List ℕ) {A : Type 0} (x : Result A Refusal) (head : told_number x ≡ answer_number a) where
  pub answer_refused : {B : Type 0} (r : Refusal) {y : Result B Broken} → x ≡ Err r → y ≡ Err (broken.Sheet r) → found y ≡ first_broken (answer_group e a)
  answer_refused r p q =
      let n : answer_number a ≡ number_of r = sym head ∙ ap told_number p in
      ap found q ∙ sym (answer_finds e a ∙ rw (n, refused_number r))

  module _ (u : A) (cells places : ℕ) (none : x ≡ Ok u) (c : cells ≡ cell_count e) (p : places ≡ place_count a) where
    passed_answer : answer_number a ≡ 0
    passed_answer = sym head ∙ ap told_number none

    pub answer_count_lem : {r : Finding} → (places ≡ cells → ⊥) → r ≡ finding 24 NONE NONE → r ≡ first_broken (answer_group e a)
    answer_count_lem h q =
        rw answer_finds (then_goes (finding (answer_number a) NONE NONE) _ passed_answer (rw (← p, ← c) (rw (ne_eqb places cells h) q)))

    module _ (b : Bool) (same : places ≡ cells) (w : b ≡ wrong_answer_length a) where
      pub answer_length : {r : Finding} → b ≡ true → r ≡ finding 25 NONE NONE → r ≡ first_broken (answer_group e a)
      answer_length h q =
          rw answer_finds (then_goes (finding (answer_number a) NONE NONE) _ passed_answer (rw (← p, ← c) (rw (eq-eqb places cells same, ← w, h) q)))

      pub answer_range : (i : Option CellNumber) {r : Finding} → b ≡ false → i ≡ first_cell (out_of_range_at a) cells → r ≡ cell_finding 26 i → r ≡ first_broken (answer_group e a)
      answer_range i h at q =
          rw answer_finds (then_goes (finding (answer_number a) NONE NONE) _ passed_answer
          (rw (← p, ← c) (rw (eq-eqb places cells same, ← w, h) (q ∙ ap (cell_finding 26) at ∙ cell_at 26 (out_of_range_at a) cells))))

pub ruleset answer_steps = (answer_refused, answer_count_lem, answer_length, answer_range)

-- ---- 30 to 44, from the tables
module _ (reads : List Reads) (readers drivers : List ℕ) (get : ℕ → Record) (cells : ℕ) where
  pub cells_kept : {r : Finding} → None ≡ first_cell (broken_at reads readers drivers get) cells → r ≡ legal → r ≡ numbered (number_at reads readers drivers get) cells
  unfolding broken_at numbered_as
  cells_kept at q = q ∙ by_test (ltb (first_from (broken_at reads readers drivers get) 0 cells) cells) (λ b. absurd (no_some (record { 0 = first_from (broken_at reads readers drivers get) 0 cells }) (at ∙ rw b))) (λ b. rw b)

  module _ (i : CellNumber) (c : Record) {A : Type 0} (x : Result A Refusal) (at : Some i ≡ first_cell (broken_at reads readers drivers get) cells)
      (k : c ≡ get i.0) (n : told_number x ≡ number_by reads readers drivers i.0 c) where
    stopped : (ltb (first_from (broken_at reads readers drivers get) 0 cells) cells ≡ true) × (first_from (broken_at reads readers drivers get) 0 cells ≡ i.0)
    stopped =
        by_test (ltb (first_from (broken_at reads readers drivers get) 0 cells) cells)
        (λ b. let e : Some i ≡ Some (record { 0 = first_from (broken_at reads readers drivers get) 0 cells }) = at ∙ rw b in (b, sym (ap cell_number_in e)))
        (λ b. absurd (no_some i (sym (at ∙ rw b))))

    told_here : told_number x ≡ number_at reads readers drivers get i.0
    told_here = n ∙ ap (number_by reads readers drivers i.0) k

    pub cell_broken : (r : Refusal) {f : Finding} → x ≡ Err r → f ≡ finding (number_of r) i.0 NONE → f ≡ numbered (number_at reads readers drivers get) cells
    unfolding broken_at numbered_as
    cell_broken r p q =
        let number : number_at reads readers drivers get i.0 ≡ number_of r = sym told_here ∙ ap told_number p in
        q ∙ rw (stopped.0, stopped.1, number)

    pub cell_fine : (u : A) {f : Finding} → x ≡ Ok u → f ≡ legal → f ≡ numbered (number_at reads readers drivers get) cells
    unfolding broken_at
    cell_fine u p q =
        let broken : broken_at reads readers drivers get i.0 ≡ true = rw (← stopped.1) (some_below (broken_at reads readers drivers get) cells stopped.0) in
        absurd (true≢false (sym broken ∙ rw (sym told_here ∙ ap told_number p)))

pub ruleset cell_steps = (cells_kept, cell_broken, cell_fine)

-- ---- 50 and 51
module _ (drivers e a : List ℕ) (get : ℕ → Record) (cells : ℕ) where
  place_then : placed_by drivers get cells e a
      ≡ then (cell_finding 50 (first_cell (place_taken e a) cells)) (cell_finding 51 (first_cell (detached_at drivers a get) cells))
  unfolding placed_by
  place_then =
      sym (cell_then 50 (place_taken e a) cells (cell_finding 51 (first_cell (detached_at drivers a get) cells)) (λ z. omega arith)
      ∙ ap (cond (ltb (first_from (place_taken e a) 0 cells) cells) (finding 50 (first_from (place_taken e a) 0 cells) NONE)) (cell_at 51 (detached_at drivers a get) cells))

  module _ {A : Type 0} (i : Option CellNumber) (at : i ≡ first_cell (place_taken e a) cells) (z : Result A Broken) (h : found z ≡ cell_finding 50 i) where
    pub place_shared : {B : Type 0} (b : Broken) {y : Result B Broken} → z ≡ Err b → y ≡ Err b → found y ≡ placed_by drivers get cells e a
    place_shared b p q = chain_stays _ _ z b (h ∙ ap (cell_finding 50) at) p q ∙ sym place_then

    pub place_detached : (u : A) (d : Option CellNumber) {r : Finding} → z ≡ Ok u → d ≡ first_cell (detached_at drivers a get) cells → r ≡ cell_finding 51 d
        → r ≡ placed_by drivers get cells e a
    place_detached u d p t q = chain_goes _ _ z u (h ∙ ap (cell_finding 50) at) p (q ∙ ap (cell_finding 51) t) ∙ sym place_then

pub ruleset place_steps = (place_shared, place_detached)

-- ---- the verdict handed out: the culprit's bytes and where they begin, the route, the tries and the four numbers
-- a part that lies inside its sheet begins at its start
begins_inside : (e a : List ℕ) (at-e at_a : ℕ × ℕ) (p : Part) → Inside e a p
    → cond p.of_answer (begins_at at_a (min p.start (length a))) (begins_at at-e (min p.start (length e))) ≡ address_of at-e at_a p
unfolding Inside address_of
begins_inside e a at-e at_a p h =
    by_test p.of_answer
    (λ b. let low : min p.start (length a) ≡ p.start = omega (arith, rw b at h) in rw (b, low))
    (λ b. let low : min p.start (length e) ≡ p.start = omega (arith, rw b at h) in rw (b, low))

pub handed_out : (s e a before after list tries : List ℕ) (v : Verdict) (part : List ℕ) (at-e at_a at : ℕ × ℕ) (number cell lab : ℕ)
    → let c = call s e a (length before) (length list) in
    v ≡ judged c → after ≡ routed c before → tries ≡ tried c list → part ≡ bytes_of e a v.culprit
    → at ≡ cond v.culprit.of_answer (begins_at at_a (min v.culprit.start (length a))) (begins_at at-e (min v.culprit.start (length e)))
    → number ≡ v.number → cell ≡ v.cell → lab ≡ v.lab
    → (part ≡ bytes_of e a (judged c).culprit)
    × ((at ≡ address_of at-e at_a (judged c).culprit)
    × ((after ≡ routed c before) × ((tries ≡ tried c list) × (number ∷ cell ∷ lab ∷ v.apprentice ∷ [] ≡ numbers_of (judged c)))))
unfolding CulpritLaw
handed_out s e a before after list tries v part at-e at_a at number cell lab x y k p o n m l =
    let inside : Inside e a v.culprit = rw x (culprit_inside (call s e a (length before) (length list))) in
    (p ∙ rw x, (o ∙ begins_inside e a at-e at_a v.culprit inside ∙ rw x, (y, (k, rw (n, m, l, x)))))
