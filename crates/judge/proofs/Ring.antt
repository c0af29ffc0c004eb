-- A ring of carries always ends in 51: where 51 held, each cell of the ring would stand past the one before it. Assumes nothing.
use Prim.Native.Nat.{ℕ, zero, suc, ◌+◌, ◌≤◌, ◌<◌}
use native.Mathlib.Omega.{arith}
use mathlib.Core.Path.{◌≡◌, refl, sym, ◌∙◌}
use mathlib.Core.Bool.{Bool, true, false, not, ◌&&◌, true≢false}
use mathlib.Core.List.{List, ◌++◌}
use lib.Dec.{eqb, ltb}
use borrow.Author.Tests.{eqb-true, eqb-false}
use Rattle.sheet.specs.Lists.{anyb, from, first_from}
use Rattle.exercise.specs.Exercise.{cell_count}
use Rattle.exercise.specs.declared.Record.TheVariants.{Combinational}
use Rattle.sheet.proofs.Laws.{by_test}
use Rattle.tables.specs.Records.{cell, cell_numbers}
use Rattle.netlist.specs.Cells.{feeds}
use Rattle.placing.specs.Places.{follows, place_taken}
use Rattle.placing.proofs.Places.{no_ring}
use Rattle.sheet.specs.Checks.{NONE}
use Rattle.judge.specs.Call.{Call}
use Rattle.judge.specs.Judge.{per_cell, stands_apart, carry_not_next, room_checks, settings_group, exercise_group, answer_group, cell_group, place_group, lab_group, sheet_checks, checks_to51, checks, first_broken, judged}
use Rattle.verdict.specs.Verdicts.{finding, verdict_of}
use Rattle.judge.specs.Ring.{FedBy, Ring, HoldsTo50, RingLaw}
use Rattle.judge.proofs.Broken.{first_append, skip_held, run_finds}
use Rattle.judge.proofs.Numbers.{to_51_numbered}
use Rattle.sheet.proofs.First.{none_below}

none_any : (f : ℕ → Bool) (i k : ℕ) → anyb f (from i k) ≡ false → (j : ℕ) → i ≤ j → j < i + k → f j ≡ false
none_any f i zero h j p q = absurd (omega arith)
none_any f i (suc k) h j p q =
    by_test (f i) (λ t. absurd (true≢false (rw t at h)))
    (λ t. by_test (eqb j i) (λ m. rw (eqb-true j i m) t) (λ m. none_any f (suc i) k (rw t at h) j (after (eqb-false j i m)) (omega arith)))
  where
    after : (j ≡ i → ⊥) → suc i ≤ j
    after d = omega arith

and_not : (p q : Bool) → p && not q ≡ false → p ≡ true → q ≡ true
and_not true true h t = refl
and_not true false h t = absurd (true≢false h)
and_not false q h t = absurd (true≢false (sym t))

-- where 51 holds, a fed cell stands where the carry goes on
stands_next : (e a : List ℕ) (j i : ℕ) → j < cell_count e → FedBy e j i → carry_not_next e a i ≡ false → follows a j i ≡ true
unfolding carry_not_next
stands_next e a j i b f h =
    let apart : stands_apart e a i (Combinational f.reader) ≡ false = rw f.is_reader at h in
    and_not (feeds f.reader.cin.0 (cell e j)) (follows a j i)
    (none_any (λ m. feeds f.reader.cin.0 (cell e m) && not (follows a m i)) 0 (cell_count e) apart j (omega arith) (omega arith)) f.fed

module _ (e a : List ℕ) (ring : ℕ → ℕ) (k : ℕ) (s : Ring e ring k) where
  -- 51 finds a cell
  found_51 : ltb (first_from (carry_not_next e a) 0 (cell_count e)) (cell_count e) ≡ true
  found_51 =
      by_test (ltb (first_from (carry_not_next e a) 0 (cell_count e)) (cell_count e)) (λ t. t)
      (λ t. absurd (no_ring a ring k
      (λ m h. stands_next e a (ring m) (ring (suc m)) (s.there m h).0 (s.fed m h) (none_below (carry_not_next e a) (cell_count e) t (ring (suc m)) (s.there m h).1))
      s.closed))

module _ (c : Call) (ring : ℕ → ℕ) (k : ℕ) (s : Ring c.exercise ring k) (h : HoldsTo50 c) where
  abbrev e : List ℕ
  e = c.exercise

  abbrev a : List ℕ
  a = c.answer

  found_first : first_broken (checks_to51 c) ≡ finding 51 (first_from (carry_not_next e a) 0 (cell_count e)) NONE
  unfolding checks_to51 sheet_checks place_group
  found_first =
      let fifty = per_cell 50 (place_taken e a) (cell_numbers e) in
      let last = per_cell 51 (carry_not_next e a) (cell_numbers e) in
      skip_held (room_checks c.room c.slots) (settings_group c.settings ++ (exercise_group e ++ (answer_group e a ++ (cell_group e ++ (fifty ++ last))))) h.room
      ∙ skip_held (settings_group c.settings) (exercise_group e ++ (answer_group e a ++ (cell_group e ++ (fifty ++ last)))) h.settings
      ∙ skip_held (exercise_group e) (answer_group e a ++ (cell_group e ++ (fifty ++ last))) h.exercise
      ∙ skip_held (answer_group e a) (cell_group e ++ (fifty ++ last)) h.answer
      ∙ skip_held (cell_group e) (fifty ++ last) h.cells
      ∙ skip_held fifty last h.places
      ∙ run_finds 51 (carry_not_next e a) (cell_count e)
      ∙ rw (found_51 e a ring k s)

pub ring_ends_in_51 : RingLaw
unfolding RingLaw judged verdict_of checks
ring_ends_in_51 c ring k s h = rw (first_append (checks_to51 c) (lab_group c) (to_51_numbered c), found_first c ring k s h)
