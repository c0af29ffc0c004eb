-- The rows that are filled eight bytes at a time, those of LABs without cells left as they were, are the eight bytes of each LAB, one after the other. Assumes nothing.
use Prim.Native.Nat.{ℕ, zero, suc, ◌+◌, ◌*◌, ◌/◌, ◌%◌, ◌<◌, ◌≤◌}
use mathlib.Core.Path.{◌≡◌, refl, sym, ap, ◌∙◌}
use mathlib.Core.Bool.{Bool, false}
use mathlib.Core.List.{List, [], ◌∷◌, ◌++◌, map, append_assoc}
use mathlib.Core.Option.{Option, none, some}
use native.Mathlib.Omega.{arith}
use lib.ListN.{length, get_or, set, replicate, get_or-replicate, take, drop, length-take, length-drop}
use borrow.Rule.Slice.PartMut.{put_mid, mid_of}
use lib.Seq.{ext_get_or, sets-eq, drop-drop, sets, length-sets}
use native.Mathlib.Numerals.{add-one}
use lib.Dec.{eqb}
use Rattle.sheet.specs.Lists.{concat_map, from, below}
use Rattle.exercise.specs.declared.Record.{Record}
use Rattle.sheet.proofs.Laws.{by_test}
use Rattle.entries.specs.declared.Need.{Need}
use Rattle.entries.specs.Table.{Table}
use Rattle.route.specs.Way.{earliest_way}
use Rattle.route.specs.Route.{eight_bytes, lab_route_of}
use Rattle.lab_nets.specs.passes.Uses.{nets_within}
use Rattle.lab_rules.specs.passes.Counts.{no_counts, counts_all, broken_by, needs_held, routed_result, result_from, searched}
use Rattle.lab_rules.specs.declared.Counts.{Counts}
use Rattle.lab_pass.specs.passes.Results.{search_of, put_row, put_rows}
use Rattle.sheet.proofs.Filling.{row_from, row_length, row_at_lem, Written, write_starts, write_goes, write_left, write_ends}

row_append : (g : ℕ → ℕ) (i m n : ℕ) → row_from g i (m + n) ≡ row_from g i m ++ row_from g (i + m) n
unfolding row_from
row_append g i zero n = let a : zero + n ≡ n = omega arith in let b : i + zero ≡ i = omega arith in rw (a, b)
row_append g i (suc m) n =
    let a : suc m + n ≡ suc (m + n) = omega arith in
    let b : i + suc m ≡ suc i + m = omega arith in
    rw (a, b) (ap (λ (l : List ℕ). g i ∷ l) (row_append g (suc i) m n))

row_none : (g : ℕ → ℕ) (i : ℕ) → row_from g i 0 ≡ []
unfolding row_from
row_none g i = refl

-- what stands in a part of a list, stored from its place on
pub part_sets : (xs ys zs : List ℕ) (at k : ℕ) → ys ≡ zs → k ≡ length zs → at + k ≤ length xs → put_mid at k xs ys ≡ sets xs at zs
part_sets xs ys zs at k e n h = rw (e, n, drop-drop) (sym (sets-eq zs xs at (omega arith) ∙ append_assoc (take at xs) zs (drop (at + length zs) xs)))

-- several elements that are stored right behind
write_sets : (g : ℕ → ℕ) (l₀ xs l : List ℕ) (at : ℕ) → Written g l₀ l at → at + length xs ≤ length l₀ → ((j : ℕ) → j < length xs → get_or xs j 0 ≡ g (at + j))
    → Written g l₀ (sets l at xs) (at + length xs)
write_sets g l₀ [] l at w h same = let here : at + 0 ≡ at = omega arith in rw here w
write_sets g l₀ (x ∷ xs) l at w h same =
    let here : at + 0 ≡ at = omega arith in
    let after : at + suc (length xs) ≡ suc at + length xs = omega arith in
    let one : Written g l₀ (set l at x) (suc at) = rw (← add-one at) (write_goes g l₀ l at x w (omega (arith, w.long)) (rw here at (same 0 (omega arith)))) in
    rw after
    (write_sets g l₀ xs (set l at x) (suc at) one (omega arith)
    (λ j b. let next : at + suc j ≡ suc at + j = omega arith in rw next at (same (suc j) (omega arith))))

pub mid_long : (a k : ℕ) (xs : List ℕ) → a + k ≤ length xs → length (mid_of a k xs) ≡ k
mid_long a k xs h = simp (length-take, length-drop) (omega arith)

module _ (some : ℕ → Bool) (g : ℕ → List ℕ) where
  abbrev byte_of : ℕ → ℕ
  byte_of j = get_or (g (j / 8)) (j % 8) 0

  one_row : (i : ℕ) → length (g i) ≡ 8 → row_from byte_of (8 * i) 8 ≡ g i
  one_row i h =
      ext_get_or 0 (row_from byte_of (8 * i) 8) (g i) (row_length byte_of (8 * i) 8 ∙ sym h)
      (λ j b.
      let low : j < 8 = omega (arith, row_length byte_of (8 * i) 8) in
      let lab : (8 * i + j) / 8 ≡ i = omega arith in
      let place : (8 * i + j) % 8 ≡ j = omega arith in
      row_at_lem byte_of (8 * i) 8 j low ∙ rw (lab, place))

  rows_from : (i k : ℕ) → ((l : ℕ) → l < i + k → length (g l) ≡ 8) → row_from byte_of (8 * i) (8 * k) ≡ concat_map g (from i k)
  rows_from i zero h = row_none byte_of (8 * i)
  rows_from i (suc k) h =
      let more : 8 * suc k ≡ 8 + 8 * k = omega arith in
      let after : 8 * i + 8 ≡ 8 * suc i = omega arith in
      rw more
      (row_append byte_of (8 * i) 8 (8 * k)
      ∙ rw (after, one_row i (h i (omega arith)), rows_from (suc i) k (λ l b. h l (omega arith))))

  pub rows_long : (l : List ℕ) (k : ℕ) → length (put_rows some g l k) ≡ length l
  unfolding put_rows put_row
  rows_long l zero = refl
  rows_long l (suc k) =
      by_test (some k) (λ t. rw t (length-sets (put_rows some g l k) (8 * k) (g k) ∙ rows_long l k)) (λ t. rw t (rows_long l k))

  row_goes : (l₀ l : List ℕ) (k : ℕ) → length (g k) ≡ 8 → 8 * k + 8 ≤ length l₀ → Written byte_of l₀ l (8 * k) → Written byte_of l₀ (put_row l k (g k)) (8 * suc k)
  unfolding put_row
  row_goes l₀ l k e r w =
      let end : 8 * suc k ≡ 8 * k + length (g k) = omega arith in
      rw end
      (write_sets byte_of l₀ (g k) l (8 * k) w (omega arith)
      (λ j h.
      let lab : (8 * k + j) / 8 ≡ k = omega arith in
      let place : (8 * k + j) % 8 ≡ j = omega arith in
      rw (lab, place)))

  -- a LAB that is left alone, where the rows were 255s and its bytes are
  row_left : (l₀ l : List ℕ) (k : ℕ) → 8 * k + 8 ≤ length l₀ → ((j : ℕ) → j < length l₀ → get_or l₀ j 0 ≡ 255) → g k ≡ replicate 8 255
      → Written byte_of l₀ l (8 * k) → Written byte_of l₀ l (8 * suc k)
  row_left l₀ l k r blank e w =
      write_left byte_of l₀ l (8 * k) (8 * suc k) w (omega arith) (omega arith)
      (λ j past h.
      let lab : j / 8 ≡ k = omega arith in
      blank j (omega arith) ∙ sym (rw (lab, e) (get_or-replicate 8 (j % 8) 255 0 (omega arith))))

  module _ (l : List ℕ) (blank : (j : ℕ) → j < length l → get_or l j 0 ≡ 255) where
    rows_go : (k : ℕ) → 8 * k ≤ length l → ((i : ℕ) → i < k → some i ≡ false → g i ≡ replicate 8 255) → ((i : ℕ) → i < k → length (g i) ≡ 8)
        → Written byte_of l (put_rows some g l k) (8 * k)
    unfolding put_rows
    rows_go zero h empty e = write_starts byte_of l
    rows_go (suc k) h empty e =
        let w = rows_go k (omega arith) (λ i b. empty i (omega arith)) (λ i b. e i (omega arith)) in
        by_test (some k) (λ t. rw t (row_goes l (put_rows some g l k) k (e k (omega arith)) (omega arith) w))
        (λ t. rw t (row_left l (put_rows some g l k) k (omega arith) blank (empty k (omega arith) t) w))

    -- rows of all LABs below k and no more, where those that are left alone have eight 255s
    pub rows_put : (k : ℕ) → length l ≡ 8 * k → ((i : ℕ) → i < k → some i ≡ false → g i ≡ replicate 8 255) → ((i : ℕ) → i < k → length (g i) ≡ 8)
        → put_rows some g l k ≡ concat_map g (below k)
    rows_put k h empty e =
        let w = rows_go k (omega arith) empty e in
        write_ends byte_of l (put_rows some g l k) (8 * k) w (omega (arith, w.long)) ∙ rw h (rows_from 0 k (λ i b. e i (omega arith)))

-- ---- a result has eight bytes
routed_eight : (ns : List Need) (way : Option (List ℕ)) → length (routed_result (lab_route_of ns way)).bytes ≡ 8
unfolding lab_route_of eight_bytes
routed_eight ns none = refl
routed_eight ns (some w) = refl

from_eight : (t : Table) (k : Counts) (nets : ℕ) → length (result_from t k nets).bytes ≡ 8
unfolding result_from
from_eight t k nets = by_test (eqb (broken_by k nets) 0) (λ e. rw e (routed_eight (needs_held k) (earliest_way t (needs_held k)))) (λ e. rw e)

pub bytes_eight : (t : Table) (get : ℕ → Record) (is : List ℕ) → length (search_of t get is).result.bytes ≡ 8
unfolding search_of searched
bytes_eight t get is =
    from_eight t (counts_all no_counts (map get is)) (length (nets_within (map get is)))
