-- The list of tries that the pass over the LABs fills has the tries of each LAB up to the first broken one, which has no way, and 0 above it.
-- Assumes nothing.
use Prim.Native.Nat.{ℕ, ◌+◌, ◌<◌, ◌≤◌}
use mathlib.Core.Path.{◌≡◌, refl, sym, ap, ◌∙◌}
use mathlib.Core.Logic.{◌⊎◌, inl, inr, ⊎_elim}
use mathlib.Core.Bool.{true, false, cond, not}
use mathlib.Core.List.{List, map}
use native.Mathlib.Nat.{eq-or-lt_of_le}
use native.Mathlib.Omega.{arith}
use lib.ListN.{replicate}
use lib.Dec.{eqb, ltb}
use borrow.Author.Tests.{ltb-true, ltb-false, lt-ltb, le-ltb, eqb-true, not-false}
use Rattle.sheet.specs.Lists.{first_from, below, elemb}
use Rattle.sheet.specs.Checks.{NONE}
use Rattle.sheet.proofs.Laws.{by_test}
use Rattle.sheet.proofs.First.{first_most, before_first}
use Rattle.exercise.specs.Exercise.{cell_count}
use Rattle.exercise.specs.passes.Known.{known_at}
use Rattle.entries.specs.Table.{Table}
use Rattle.route.specs.Served.{SameServed}
use Rattle.lab_rules.specs.Rules.{lab_tries}
use Rattle.lab_rules.specs.passes.Counts.{AllFit}
use Rattle.lab_rules.specs.passes.Counts.{LabSearch}
use Rattle.lab_pass.specs.passes.Links.{Links}
use Rattle.lab_pass.specs.passes.Results.{result_at, tries_at, broken_lab, lowest_broken, has_cells, put_tries, searched_labs}
use Rattle.lab_pass.proofs.Passing.{none_in, lowest_lab}
use Rattle.lab_pass.proofs.Tried.{tries_put}
use Rattle.verdict.specs.declared.Finding.{Finding}
use Rattle.judge.specs.Call.{Call, in_force}
use Rattle.judge.specs.Judge.{lab_cells, lab_group, first_broken}
use Rattle.verdict.specs.Verdicts.{finding, legal}
use Rattle.verdict.specs.Numbers.{searched_numbers}
use Rattle.judge.specs.passes.Stages.{numbered_as, numbered_lab}
use Rattle.judge.specs.passes.Preparing.{linked}
use Rattle.judge.proofs.Sound.{Sound}
use Rattle.judge.proofs.LabsFound.{labs_are, tries_at_lem}

-- a number on which the list is written
pub one_of : (n : ℕ) → elemb n searched_numbers ≡ true → (n ≡ 0) ⊎ (n ≡ 65)
one_of n h = by_test (eqb n 0) (λ e. inl (eqb-true n 0 e)) (λ e. by_test (eqb n 65) (λ f. inr (eqb-true n 65 f)) (λ f. inl (absurd_of e f)))
  where
    absurd_of : eqb n 0 ≡ false → eqb n 65 ≡ false → n ≡ 0
    absurd_of e f = let z : false ≡ true = rw (e, f) at h in cc

-- where a numbering of LABs stops, and what is found there
module _ (g : ℕ → ℕ) where
  abbrev stop : ℕ
  stop = first_from (λ i. not (eqb (g i) 0)) 0 1024

  low_zero : (l : ℕ) → l < stop → g l ≡ 0
  low_zero l h = eqb-true (g l) 0 (not-false _ (before_first (λ i. not (eqb (g i) 0)) 1024 0 l (omega arith) h))

  stops : stop < 1024 → numbered_lab g ≡ finding (g stop) NONE stop
  unfolding numbered_as
  stops h = rw (lt-ltb stop 1024 h)

  ends : 1024 ≤ stop → numbered_lab g ≡ legal
  unfolding numbered_as
  ends h = rw (le-ltb stop 1024 h)

module _ (c : Call) (s : Sound c.exercise) (fits : (l : ℕ) → AllFit (lab_cells c l)) (u : Table) (served : SameServed u (in_force c)) where
  abbrev e : List ℕ
  e = c.exercise

  abbrev lists : Links
  lists = linked c.answer (cell_count e)

  abbrev number : ℕ → ℕ
  number l = (result_at u (known_at e) lists.first lists.next l).number

  abbrev tries_in : ℕ → ℕ
  tries_in l = tries_at u (known_at e) lists.first lists.next l

  abbrev found : Finding
  found = first_broken (lab_group c)

  -- the tries of LAB l, where the first broken LAB is k
  abbrev told : ℕ → ℕ → ℕ
  told k l = cond (ltb k l) 0 (lab_tries (in_force c) (lab_cells c l))

  module _ (kept : elemb found.number searched_numbers ≡ true) where
    -- up to the LAB where the pass stops each is legal or has no way
    reached : (l : ℕ) → l < 1024 → l ≤ stop number → (number l ≡ 0) ⊎ (number l ≡ 65)
    reached l h m = ⊎_elim at_stop (λ b. inl (low_zero number l b)) (eq-or-lt_of_le m)
      where
        at_stop : l ≡ stop number → (number l ≡ 0) ⊎ (number l ≡ 65)
        at_stop q =
            let here : found ≡ finding (number (stop number)) NONE (stop number) = sym (labs_are c s fits u served) ∙ stops number (omega arith) in
            let same : found.number ≡ number l = ap (λ (f : Finding). f.number) here ∙ ap number (sym q) in
            ⊎_elim (λ z. inl (sym same ∙ z)) (λ z. inr (sym same ∙ z)) (one_of found.number kept)

    tries_to : (l : ℕ) → l < 1024 → l ≤ stop number → tries_in l ≡ lab_tries (in_force c) (lab_cells c l)
    tries_to l h m = tries_at_lem c s fits u served l h (reached l h m)

    pub tries_told : (l : ℕ) → l < 1024 → cond (ltb l (searched_labs (stop number))) (tries_in l) 0 ≡ told found.lab l
    tries_told l h = by_test (ltb (stop number) 1024) (λ t. stopped t (ltb-true (stop number) 1024 t)) (λ t. through t (ltb-false (stop number) 1024 t))
      where
        stopped : ltb (stop number) 1024 ≡ true → stop number < 1024 → cond (ltb l (searched_labs (stop number))) (tries_in l) 0 ≡ told found.lab l
        stopped t b =
            let at : found.lab ≡ stop number = ap (λ (f : Finding). f.lab) (sym (labs_are c s fits u served) ∙ stops number b) in
            rw (t, at)
            (by_test (ltb (stop number) l)
            (λ p. let m = ltb-true (stop number) l p in rw (p, le-ltb l (stop number + 1) (omega arith)))
            (λ p. let m = ltb-false (stop number) l p in rw (p, lt-ltb l (stop number + 1) (omega arith)) (tries_to l h m)))

        through : ltb (stop number) 1024 ≡ false → 1024 ≤ stop number → cond (ltb l (searched_labs (stop number))) (tries_in l) 0 ≡ told found.lab l
        through t b =
            let at : found.lab ≡ NONE = ap (λ (f : Finding). f.lab) (sym (labs_are c s fits u served) ∙ ends number b) in
            rw (t, at, lt-ltb l (stop number) (omega arith), le-ltb NONE l (omega arith)) (tries_to l h (omega arith))

    -- THE LIST OF TRIES THAT THE PASS FILLS
    pub tries_are_told : put_tries (has_cells lists.first lists.next) tries_in (replicate 1024 0) (searched_labs (lowest_broken u (known_at e) lists.first lists.next).lab)
        ≡ map (told found.lab) (below 1024)
    unfolding broken_lab
    tries_are_told =
        rw (lowest_lab u (known_at e) lists.first lists.next _ refl)
        (tries_put (has_cells lists.first lists.next) tries_in 1024 (searched_labs (stop number)) most
        (λ i b n. ap (λ (r : LabSearch). r.tries) (none_in u (known_at e) lists.first lists.next i n)) (told found.lab) tries_told)
      where
        most : searched_labs (stop number) ≤ 1024
        most =
            by_test (ltb (stop number) 1024) (λ t. let b = ltb-true (stop number) 1024 t in rw t (omega arith))
            (λ t. rw t (omega (arith, first_most (λ i. not (eqb (number i) 0)) 0 1024)))
