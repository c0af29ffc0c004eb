-- A LAB has at most 32 cells where checks 1 to 51 hold: 16 LEs with one cell of each kind. Assumes nothing.
use Prim.Native.Nat.{ℕ, ◌+◌, ◌*◌, ◌-◌, ◌≤◌, ◌<◌}
use mathlib.Core.Path.{◌≡◌, refl, sym, ap, ◌∙◌}
use mathlib.Core.Bool.{Bool, false, not, ◌&&◌, true≢false}
use mathlib.Core.List.{List}
use native.Mathlib.Omega.{arith}
use lib.ListN.{length, length-map}
use lib.Dec.{eqb}
use borrow.Author.Tests.{eqb-true, eq-eqb}
use Rattle.sheet.specs.Lists.{below, first_from}
use Rattle.exercise.specs.Exercise.{cell_count, record_part, net_count}
use Rattle.exercise.specs.Record.{record_of, record_at, is_malformed, kind_of}
use Rattle.sheet.proofs.Laws.{by_test, and_parts}
use Rattle.sheet.proofs.Scan.{any_below}
use Rattle.distinct.specs.Rising.{rising, distinct}
use Rattle.distinct.proofs.Rising.{In, Above, rising_above, in_rising, rising_in, same, distinct_length, in_map, distinct_image, filter_above, in_filter}
use Rattle.distinct.proofs.Nets.{from_above, in_from, from_in}
use Rattle.tables.specs.Records.{cell}
use Rattle.placing.specs.Places.{kind_at, x_at, y_at, le_at, lab_at, same_place, place_taken}
use Rattle.placing.proofs.Places.{in_range, kind_of_record}
use Rattle.placing.specs.Members.{members}
use Rattle.sheet.proofs.First.{none_below, first_is}
use Rattle.judge.specs.Judge.{lab_cells}
use Rattle.judge.proofs.Kept.{Kept, all_kept}
use Rattle.list_check.specs.Agreement.{AtMost32}

-- a rising list has each of its numbers once
once : (l : List ℕ) → Above 0 l → distinct l ≡ length l
once l h = ap length (same (rising l) l (rising_above l) h (λ z m. in_rising z l m) (λ z m. rising_in z l m))

-- ---- the members of a LAB
-- a member is a cell that stands in the LAB
pub member_is : (e a : List ℕ) (l i : ℕ) → In i (members a (cell_count e) l) → (i < cell_count e) × (lab_at a i ≡ l)
unfolding members
member_is e a l i m =
    let g = in_filter (λ i. eqb (lab_at a i) l) i (below (cell_count e)) m in
    (omega (arith, in_from i 0 (cell_count e) g.0), eqb-true (lab_at a i) l g.1)

members_once : (e a : List ℕ) (l : ℕ) → distinct (members a (cell_count e) l) ≡ length (members a (cell_count e) l)
unfolding members
members_once e a l = once (members a (cell_count e) l) (filter_above (λ i. eqb (lab_at a i) l) 0 (below (cell_count e)) (from_above 0 (cell_count e)))

-- ---- codes
-- the kind of a whole record is 1 or 2
kind_known : (n : ℕ) (p : List ℕ) → is_malformed (record_of n p) ≡ false → (1 ≤ kind_of p) × (kind_of p ≤ 2)
unfolding record_of
kind_known n p m =
    by_test (eqb (kind_of p) 1) (λ k. let q = eqb-true (kind_of p) 1 k in (omega arith, omega arith))
    (λ k. by_test (eqb (kind_of p) 2) (λ r. let q = eqb-true (kind_of p) 2 r in (omega arith, omega arith))
    (λ r. by_test (not (eqb (length p) 24)) (λ w. absurd (true≢false (rw w at m))) (λ w. absurd (true≢false (rw (w, k, r) at m)))))

kind_at_lem : (e : List ℕ) (i : ℕ) → is_malformed (cell e i) ≡ false → (1 ≤ kind_at e i) × (kind_at e i ≤ 2)
unfolding cell record_at
kind_at_lem e i m = rw (kind_of_record e i) at (kind_known (net_count e) (record_part e i) m)

-- kind and LE as one number
code : List ℕ → List ℕ → ℕ → ℕ
code e a i = 16 * (kind_at e i - 1) + le_at a i

module _ (e a : List ℕ) (kept : Kept e a) where
  code_low : (i : ℕ) → i < cell_count e → code e a i < 32
  unfolding code
  code_low i b = let k = kind_at_lem e i (kept.whole i b) in let r = in_range a i (kept.placed i b) in omega arith

  -- two cells of one LAB have two codes
  codes_differ : (j i : ℕ) → j < i → i < cell_count e → lab_at a j ≡ lab_at a i → code e a j ≡ code e a i → ⊥
  unfolding code lab_at same_place place_taken
  codes_differ j i h b q s =
      let f : ℕ → Bool = λ m. same_place e a m i in
      let free = none_below f i (sym (any_below f i) ∙ kept.alone i b) j h in
      let kj = kind_at_lem e j (kept.whole j (omega arith)) in
      let ki = kind_at_lem e i (kept.whole i b) in
      let rj = in_range a j (kept.placed j (omega arith)) in
      let ri = in_range a i (kept.placed i b) in
      let k : kind_at e j ≡ kind_at e i = omega arith in
      let x : x_at a j ≡ x_at a i = omega arith in
      let y : y_at a j ≡ y_at a i = omega arith in
      let le : le_at a j ≡ le_at a i = omega arith in
      true≢false (sym (rw (eq-eqb (kind_at e j) (kind_at e i) k, eq-eqb (x_at a j) (x_at a i) x, eq-eqb (y_at a j) (y_at a i) y, eq-eqb (le_at a j) (le_at a i) le)) ∙ free)

  module _ (l : ℕ) where
    -- cell i stands in the LAB with code c
    has_code : ℕ → ℕ → Bool
    has_code c i = eqb (lab_at a i) l && eqb (code e a i) c

    -- the lowest cell with code c
    of_code : ℕ → ℕ
    of_code c = first_from (has_code c) 0 (cell_count e)

    no_lower : (i j : ℕ) → j < i → i < cell_count e → lab_at a i ≡ l → has_code (code e a i) j ≡ false
    unfolding has_code
    no_lower i j h b q =
        by_test (has_code (code e a i) j)
        (λ t. let p = and_parts (eqb (lab_at a j) l) (eqb (code e a j) (code e a i)) t in
        absurd (codes_differ j i h b (eqb-true (lab_at a j) l p.0 ∙ sym q) (eqb-true (code e a j) (code e a i) p.1)))
        (λ t. t)

    code_back : (i : ℕ) → i < cell_count e → lab_at a i ≡ l → i ≡ of_code (code e a i)
    unfolding of_code has_code
    code_back i b q =
        sym (first_is (has_code (code e a i)) (cell_count e) 0 i (omega arith) (omega arith) (λ j _ h. no_lower i j h b q)
        (rw (eq-eqb (lab_at a i) l q, eq-eqb (code e a i) (code e a i) refl)))

    pub few_members : length (members a (cell_count e) l) ≤ 32
    few_members =
        let image : (z : ℕ) → In z (members a (cell_count e) l) → _ = λ z m.
        let g = member_is e a l z m in
        in_map of_code z (code e a z) (below 32) (from_in (code e a z) 0 32 (omega arith) (code_low z g.0)) (code_back z g.0 g.1) in
        omega (arith, members_once e a l, distinct_image of_code (members a (cell_count e) l) (below 32) image, distinct_length (below 32))

pub at_most_32 : AtMost32
unfolding AtMost32 lab_cells
at_most_32 c l h = rw length-map (few_members c.exercise c.answer (all_kept c h) l)
