-- The marked LABs are the occupied ones, and their lines, written from the route buffer of a legal verdict, are those of the listing.
-- Assumes nothing.
use Prim.Native.Nat.{ℕ, zero, suc, ◌+◌, ◌*◌, ◌<◌}
use mathlib.Core.Path.{◌≡◌, refl, sym, ap, ◌∙◌}
use mathlib.Core.Bool.{Bool, true, false, cond, ◌||◌, or-true, or-false}
use mathlib.Core.List.{List, [], ◌++◌}
use native.Mathlib.Nat.{add-zero}
use native.Mathlib.Numerals.{add-one}
use native.Mathlib.Omega.{arith}
use borrow.Author.Tests.{eqb-true, eqb-false}
use lib.Dec.{eqb}
use lib.ListN.{length, get_or, set, length-set, length-replicate, get_or-replicate}
use lib.Seq.{get_or-set_same, get_or-set_other}
use Rattle.sheet.specs.Lists.{concat_map, filterb, anyb, from, below}
use Rattle.sheet.specs.Bytes.{byte_at}
use Rattle.exercise.specs.Exercise.{cell_count}
use Rattle.sheet.proofs.Laws.{by_test}
use Rattle.sheet.proofs.Lists.{any-suc, concat-suc}
use Rattle.route.specs.Way.{earliest_way}
use Rattle.lab_rules.specs.Rules.{needs, route_of}
use Rattle.placing.specs.Places.{lab_at}
use Rattle.judge.specs.Call.{Call, in_force}
use Rattle.judge.specs.Judge.{lab_cells, occupied, judged, routed}
use Rattle.judge.proofs.RouteHeld.{row_at_lem, route_eight, written}
use Rattle.listing.specs.declared.Page.{Page}
use Rattle.listing.specs.Listing.{lab_line, lab_lines}
use Rattle.listing.specs.passes.Writes.{Writes}
use Rattle.listing.specs.passes.Marks.{marks_of, is_marked, row_at, line_at, lines_below}
use Rattle.listing.proofs.Writing.{◌then◌, nothing, within}

-- ---- a LAB is marked where a cell stands in it
mark_one : (m : List Bool) (at l : ℕ) → l < length m → is_marked (set m at true) l ≡ is_marked m l || eqb at l
mark_one m at l h =
    by_test (eqb at l)
    (λ t. rw (t, eqb-true at l t, get_or-set_same m l true false h, or-true))
    (λ t. rw (t, get_or-set_other m at l true false (λ q. eqb-false at l t (sym q)), or-false))

marks_long : (a : List ℕ) (n : ℕ) → length (marks_of a n) ≡ 1024
unfolding marks_of
marks_long a zero = length-replicate {A = Bool} 1024 false
marks_long a (suc n) = rw length-set (marks_long a n)

marks_any : (a : List ℕ) (l n : ℕ) → l < 1024 → is_marked (marks_of a n) l ≡ anyb (λ j. eqb (lab_at a j) l) (below n)
unfolding marks_of
marks_any a l zero h = get_or-replicate {A = Bool} 1024 l false false h
marks_any a l (suc n) h =
    mark_one (marks_of a n) (lab_at a n) l (rw (marks_long a n) h)
    ∙ rw (marks_any a l n h, any-suc (λ j. eqb (lab_at a j) l) n)

pub occupied_marked : (c : Call) (l : ℕ) → l < 1024 → is_marked (marks_of c.answer (cell_count c.exercise)) l ≡ occupied c l
unfolding occupied
occupied_marked c l h = marks_any c.answer l (cell_count c.exercise) h

-- ---- the lines, one LAB after the other
module _ (marks : List Bool) (route : List ℕ) where
  lines_more : (n : ℕ) → lines_below marks route (n + 1) ≡ lines_below marks route n ++ line_at marks route n
  unfolding lines_below
  lines_more n = rw add-one (concat-suc (line_at marks route) n)

  pub no_lines : (p : Page) → Writes p (lines_below marks route 0) 0 p
  unfolding lines_below
  no_lines p = nothing p 0

  pub line_more : {p q r : Page} (n : ℕ) → Writes p (lines_below marks route n) (127 * n) q → Writes q (line_at marks route n) 127 r
      → Writes p (lines_below marks route (n + 1)) (127 * (n + 1)) r
  line_more n v w = rw (lines_more n) (within (127 * (n + 1)) (omega arith) (v then w))

  -- the two ways past a LAB
  pub marked : {p q : Page} {bytes : List ℕ} (l : ℕ) → is_marked marks l ≡ true → bytes ≡ row_at route l
      → Writes p (lab_line l bytes) 127 q → Writes p (line_at marks route l) 127 q
  unfolding line_at
  marked l t e w = rw (t, ← e) w

  pub unmarked : (p : Page) (l : ℕ) → is_marked marks l ≡ false → Writes p (line_at marks route l) 127 p
  unfolding line_at
  unmarked p l t = rw t (nothing p 127)

-- ---- the lines of a legal verdict
module _ (f g : ℕ → List ℕ) (p q : ℕ → Bool) where
  lines_same : (i k : ℕ) → ((l : ℕ) → l < i + k → f l ≡ g l) → ((l : ℕ) → l < i + k → p l ≡ q l)
      → concat_map (λ l. cond (p l) (f l) []) (from i k) ≡ concat_map g (filterb q (from i k))
  lines_same i zero s t = refl
  lines_same i (suc k) s t =
      let rest = lines_same (suc i) k (λ l h. s l (omega arith)) (λ l h. t l (omega arith)) in
      by_test (q i)
      (λ y. rw (t i (omega arith), y, s i (omega arith)) (ap (λ (r : List ℕ). g i ++ r) rest))
      (λ y. rw (t i (omega arith), y) rest)

module _ (c : Call) (before : List ℕ) (legal : (judged c).number ≡ 0) where
  abbrev route : List ℕ
  route = routed c before

  abbrev bytes : ℕ → List ℕ
  bytes l = route_of (in_force c) (lab_cells c l)

  -- byte j of LAB l in the route buffer
  byte_of : (l j : ℕ) → l < 1024 → j < 8 → byte_at route (8 * l + j) ≡ get_or (bytes l) j 0
  unfolding route_of
  byte_of l j h s =
      rw (written c before legal)
      (row_at_lem bytes (λ i. route_eight (needs (lab_cells c i)) (earliest_way (in_force c) (needs (lab_cells c i)))) 1024 l j h s)

  line_same : (l : ℕ) → l < 1024 → lab_line l (row_at route l) ≡ lab_line l (bytes l)
  unfolding lab_line row_at
  line_same l h =
      let b : (j : ℕ) → j < 8 → byte_at route (8 * l + j) ≡ get_or (bytes l) j 0 = λ j s. byte_of l j h s in
      let first : byte_at route (8 * l) ≡ get_or (bytes l) 0 0 = rw add-zero at (b 0 (omega arith)) in
      rw (first, b 1 (omega arith), b 2 (omega arith), b 3 (omega arith), b 4 (omega arith), b 5 (omega arith), b 6 (omega arith), b 7 (omega arith))

  abbrev marks : List Bool
  marks = marks_of c.answer (cell_count c.exercise)

  pub legal_lines : lines_below marks route 1024 ≡ lab_lines c
  unfolding lines_below line_at lab_lines
  legal_lines =
      lines_same (λ l. lab_line l (row_at route l)) (λ l. lab_line l (bytes l)) (is_marked marks) (occupied c) 0 1024
      (λ l h. line_same l (omega arith)) (λ l h. occupied_marked c l (omega arith))
