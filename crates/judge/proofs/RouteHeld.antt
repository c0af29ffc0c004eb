-- What the route buffer holds when the verdict is legal: for each LAB the entries of its earliest way, each at the byte of its need, and 255
-- in every byte that no need has. Assumes nothing.
use Prim.Native.Nat.{ℕ, zero, suc, ◌+◌, ◌*◌, ◌/◌, ◌%◌, ◌<◌}
use mathlib.Core.Path.{◌≡◌, refl, sym, ◌∙◌}
use mathlib.Core.Bool.{Bool, true}
use mathlib.Core.List.{List}
use mathlib.Core.Option.{Option, none, some}
use native.Mathlib.Nat.{zero-add, add-zero}
use native.Mathlib.Omega.{arith}
use lib.ListN.{length, get_or, drop}
use lib.Seq.{take_at, drop-append-add, get_or-take, get_or-drop}
use lib.Dec.{eqb}
use borrow.Author.Tests.{eqb-true, ltb-true}
use Rattle.sheet.specs.Lists.{concat_map, from, below, first_from}
use Rattle.sheet.specs.Bytes.{part_at}
use Rattle.exercise.specs.Exercise.{cell_count}
use Rattle.sheet.proofs.First.{some_below}
use Rattle.sheet.proofs.Scan.{any_below}
use Rattle.entries.specs.declared.Need.{Need}
use Rattle.entries.specs.Table.{Table}
use Rattle.route.specs.Way.{earliest_way}
use Rattle.route.specs.Route.{eight_bytes, lab_route_of, byte_of_need, HoldsEarliest}
use Rattle.lab_rules.specs.Rules.{needs, lab_checks, lab_number, route_of}
use Rattle.lab_rules.proofs.Routes.{lab_legal}
use Rattle.placing.specs.Places.{lab_at}
use Rattle.placing.proofs.Places.{lab_in_range}
use Rattle.judge.specs.Call.{Call, in_force}
use Rattle.judge.specs.Judge.{lab_cells, occupied, judged, route_bytes, routed}
use Rattle.judge.specs.Demands.{AllHold, lab_needs, byte_of, HoldsFirstWay}
use Rattle.judge.proofs.FitCells.{lab_fit}
use Rattle.judge.proofs.Held.{hold_number, to_51_holds, lab_holds}
use Rattle.judge.proofs.Kept.{Kept, all_kept}

-- ---- rows of eight bytes
module _ (g : ℕ → List ℕ) (eight : (l : ℕ) → length (g l) ≡ 8) where
  row_from_lem : (i k l : ℕ) → l < k → part_at (concat_map g (from i k)) (8 * l) 8 ≡ g (i + l)
  row_from_lem i zero l h = absurd (omega arith)
  row_from_lem i (suc k) zero h = rw add-zero (take_at (g i) (concat_map g (from (suc i) k)) 8 (eight i))
  row_from_lem i (suc k) (suc l) h =
      let past : 8 * suc l ≡ length (g i) + 8 * l = rw eight (omega arith) in
      let same : suc i + l ≡ i + suc l = omega arith in
      rw (past, drop-append-add (g i), row_from_lem (suc i) k l (omega arith), same)

  -- a row whole, and one byte of it
  pub row_part : (k l : ℕ) → l < k → part_at (concat_map g (below k)) (8 * l) 8 ≡ g l
  row_part k l h = row_from_lem 0 k l h ∙ rw zero-add

  pub row_at_lem : (k l j : ℕ) → l < k → j < 8 → get_or (concat_map g (below k)) (8 * l + j) 0 ≡ get_or (g l) j 0
  row_at_lem k l j h s =
      let all = concat_map g (below k) in
      sym (get_or-take 8 (drop (8 * l) all) j 0 s ∙ get_or-drop (8 * l) all j 0) ∙ rw (row_part k l h)

pub route_eight : (ns : List Need) (way : Option (List ℕ)) → length (lab_route_of ns way).bytes ≡ 8
unfolding lab_route_of eight_bytes
route_eight ns none = refl
route_eight ns (some w) = refl

-- ---- a legal verdict
module _ (c : Call) (before : List ℕ) (legal : (judged c).number ≡ 0) where
  abbrev t : Table
  t = in_force c

  abbrev e : List ℕ
  e = c.exercise

  abbrev a : List ℕ
  a = c.answer

  kept : Kept e a
  kept = all_kept c (to_51_holds c legal)

  pub written : routed c before ≡ concat_map (λ l. route_of t (lab_cells c l)) (below 1024)
  unfolding routed route_bytes
  written = rw legal

  -- the bytes of LAB l in the buffer are its route bytes, which hold its earliest way
  byte_at : (l j : ℕ) → l < 1024 → j < 8 → get_or (routed c before) (8 * l + j) 0 ≡ get_or (route_of t (lab_cells c l)) j 0
  unfolding route_of
  byte_at l j h s =
      rw written (row_at_lem (λ k. route_of t (lab_cells c k)) (λ k. route_eight (needs (lab_cells c k)) (earliest_way t (needs (lab_cells c k)))) 1024 l j h s)

  lab_held : (l : ℕ) → l < 1024 → HoldsEarliest t (lab_needs c l) (route_of t (lab_cells c l))
  unfolding AllHold lab_needs lab_number
  lab_held l h =
      lab_legal t (lab_cells c l) (lab_fit c kept.few kept.keeps l)
      (hold_number l (lab_checks t (lab_cells c l)) (lab_holds c legal l h))

  -- an occupied LAB has a LAB's number
  occupied_low : (l : ℕ) → occupied c l ≡ true → l < 1024
  unfolding occupied
  occupied_low l o =
      let f : ℕ → Bool = λ i. eqb (lab_at a i) l in
      let i = first_from f 0 (cell_count e) in
      let some = sym (any_below f (cell_count e)) ∙ o in
      rw (eqb-true (lab_at a i) l (some_below f (cell_count e) some)) at (lab_in_range a i (kept.placed i (ltb-true i (cell_count e) some)))

  pub legal_route : (l : ℕ) → occupied c l ≡ true → HoldsFirstWay c (routed c before) l
  unfolding byte_of
  legal_route l o =
      let low = occupied_low l o in
      let g = lab_held l low in
      record {
        w = g.w;
        is_way = g.is_way;
        others_later = g.others_later;
        held = λ i m. byte_at l (byte_of_need (lab_needs c l) i) low (g.held i m).0 ∙ (g.held i m).1;
      }

  pub no_need_255 : (b : ℕ) → b < 8192 → ((l i : ℕ) → i < length (lab_needs c l) → byte_of c l i ≡ b → ⊥) → get_or (routed c before) b 0 ≡ 255
  unfolding byte_of
  no_need_255 b h free =
      let l : ℕ = b / 8 in
      let s : ℕ = b % 8 in
      let at : 8 * l + s ≡ b = omega arith in
      let g = lab_held l (omega arith) in
      let unmet : (i : ℕ) → i < length (lab_needs c l) → byte_of_need (lab_needs c l) i ≡ s → ⊥ = λ i m q. free l i m (omega arith) in
      rw (← at) (byte_at l s (omega arith) (omega arith) ∙ g.no_need_255 s (omega arith) unmet)
