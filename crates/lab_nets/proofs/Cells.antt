-- A LAB's cells, handed over one by one, leave marks that say "read" at just the nets that enter the LAB, and count them. Assumes nothing.
use Prim.Native.Nat.{ℕ, ◌+◌, ◌<◌}
use mathlib.Core.Path.{◌≡◌, refl, sym, ap, ◌∙◌}
use mathlib.Core.Logic.{inl, inr}
use mathlib.Core.Bool.{Bool, true, not, ◌&&◌}
use mathlib.Core.List.{List, [], ◌∷◌, ◌++◌, map}
use native.Mathlib.Omega.{arith}
use lib.ListN.{length}
use lib.Dec.{ltb}
use borrow.Author.Tests.{lt-ltb}
use Rattle.sheet.specs.Lists.{concat_map, filterb, anyb, elemb, below}
use Rattle.exercise.specs.Record.{outputs}
use Rattle.exercise.specs.declared.Record.{Record}
use Rattle.sheet.proofs.Laws.{same_truth, and_parts}
use Rattle.sheet.proofs.Lists.{any_append}
use Rattle.distinct.specs.Rising.{rising}
use Rattle.distinct.specs.declared.LabMarks.{LabMarks}
use Rattle.distinct.specs.passes.Marks.{Use, reads, drives, nets_read, nets_driven, Marking, marking, mark_all, read_marks, Lower}
use Rattle.distinct.proofs.Rising.{In, in_rising, rising_in, in_filter, filter_in}
use Rattle.distinct.proofs.Nets.{mark_append, elem_in, in_elem, marked_each, marked_lower, marked_all, marked_count, counted_all}
use Rattle.lab_nets.specs.NetsIn.{inputs, nets_at, nets_in}
use Rattle.lab_nets.specs.Marked.{read_in, driven_in, marked_as_read, MarksAreNets}
use Rattle.lab_nets.specs.passes.Uses.{uses_of, mark_cells, nets_within}

pub marks_cons : (l : LabMarks) (m : Marking) (c : Record) (cs : List Record) → mark_cells l m (c ∷ cs) ≡ mark_cells l (mark_all l m (uses_of c)) cs
unfolding mark_cells
marks_cons l m c cs = mark_append l m (uses_of c) (concat_map uses_of cs)

-- what is read and what is driven of uses that follow those of one cell
uses_then : (xs ys : List ℕ) (us : List Use)
    → (nets_read (map reads xs ++ map drives ys ++ us) ≡ xs ++ nets_read us) × (nets_driven (map reads xs ++ map drives ys ++ us) ≡ ys ++ nets_driven us)
uses_then [] [] us = (refl, refl)
uses_then [] (y ∷ ys) us = let g = uses_then [] ys us in (g.0, ap (λ (l : List ℕ). y ∷ l) g.1)
uses_then (x ∷ xs) ys us = let g = uses_then xs ys us in (ap (λ (l : List ℕ). x ∷ l) g.0, g.1)

uses_all : (cs : List Record)
    → (nets_read (concat_map uses_of cs) ≡ concat_map (λ c. nets_at (inputs c)) cs) × (nets_driven (concat_map uses_of cs) ≡ concat_map (λ c. nets_at (outputs c)) cs)
unfolding uses_of
uses_all [] = (refl, refl)
uses_all (c ∷ cs) =
    let g = uses_then (nets_at (inputs c)) (nets_at (outputs c)) (concat_map uses_of cs) in
    let h = uses_all cs in
    (g.0 ∙ rw h.0, g.1 ∙ rw h.1)

-- ---- membership
elem_any : (f : Record → List ℕ) (n : ℕ) (cs : List Record) → elemb n (concat_map f cs) ≡ anyb (λ c. elemb n (f c)) cs
elem_any f n [] = refl
elem_any f n (c ∷ cs) = any_append _ (f c) (concat_map f cs) ∙ rw (elem_any f n cs)

-- a net enters exactly if it is read, and driven by none of the cells
pub net_enters : (cs : List Record) (n : ℕ) → elemb n (nets_in cs) ≡ (read_in cs n && not (driven_in cs n))
unfolding nets_in
net_enters cs n =
    let read : List ℕ = concat_map (λ c. nets_at (inputs c)) cs in
    let outside : ℕ → Bool = λ z. not (elemb z (concat_map (λ c. nets_at (outputs c)) cs)) in
    same_truth (elemb n (filterb outside (rising read))) (elemb n read && outside n)
    (λ h. let g = in_filter outside n (rising read) (elem_in n (filterb outside (rising read)) h) in
    rw (in_elem n read (in_rising n read g.0)) g.1)
    (λ h. let g = and_parts (elemb n read) (outside n) h in
    in_elem n (filterb outside (rising read)) (filter_in outside n (rising read) (rising_in n read (elem_in n read g.0)) g.1))
    ∙ rw (elem_any (λ c. nets_at (inputs c)) n cs, elem_any (λ c. nets_at (outputs c)) n cs)

-- where every net that is read has a mark, all of them count
filter_every : (p : ℕ → Bool) (l : List ℕ) → ((z : ℕ) → In z l → p z ≡ true) → filterb p l ≡ l
filter_every p [] h = refl
filter_every p (x ∷ l) h = rw (h x (inl refl), filter_every p l (λ z m. h z (inr m)))

pub all_within : (cs : List Record) → ((n : ℕ) → read_in cs n ≡ true → n < 1024) → nets_within cs ≡ nets_in cs
unfolding nets_within
all_within cs small =
    filter_every (λ n. ltb n 1024) (nets_in cs)
    (λ z m. lt-ltb z 1024 (small z (and_parts (read_in cs z) (not (driven_in cs z)) (sym (net_enters cs z) ∙ in_elem z (nets_in cs) m)).0))

-- ---- the marks of a LAB
module _ (l : LabMarks) (up : l.read < l.driven) (m : List ℕ) (s : Lower 1024 l.read m) (cs : List Record) where
  pub cells_lower : Lower 1024 (l.driven + 1) (mark_cells l (marking m 0) cs).marks
  unfolding mark_cells
  cells_lower = marked_lower l up 1024 (marking m 0) s (concat_map uses_of cs)

  pub cells_counted : (mark_cells l (marking m 0) cs).count ≡ length (nets_within cs)
  unfolding mark_cells nets_within nets_in
  cells_counted =
      let u = uses_all cs in
      counted_all l up 1024 m s (omega arith) (concat_map uses_of cs) ∙ rw (u.0, u.1)

  cells_each : (n : ℕ) → n < 1024 → marked_as_read l.read (mark_cells l (marking m 0) cs).marks n ≡ (read_in cs n && not (driven_in cs n))
  unfolding mark_cells
  cells_each n h =
      let u = uses_all cs in
      marked_each l up 1024 (marking m 0) s (concat_map uses_of cs) n h
      ∙ rw (u.0, u.1, elem_any (λ c. nets_at (inputs c)) n cs, elem_any (λ c. nets_at (outputs c)) n cs)

  cells_all : filterb (marked_as_read l.read (mark_cells l (marking m 0) cs).marks) (below 1024) ≡ nets_within cs
  unfolding mark_cells nets_within nets_in
  cells_all = let u = uses_all cs in marked_all l up 1024 (marking m 0) s (concat_map uses_of cs) ∙ rw (u.0, u.1)

  cells_number : (mark_cells l (marking m 0) cs).count ≡ read_marks l (mark_cells l (marking m 0) cs).marks
  unfolding mark_cells
  cells_number = marked_count l up 1024 m s (omega arith) (concat_map uses_of cs)

  -- 64, request M-103: for any cells, from any marks that are lower than the LAB's
  pub marks_are_nets : MarksAreNets l.read cs (mark_cells l (marking m 0) cs).marks (mark_cells l (marking m 0) cs).count
  unfolding read_marks
  marks_are_nets = record {
    each = cells_each;
    nets = λ n h. cells_each n h ∙ sym (net_enters cs n);
    number = cells_number;
    all = λ small. let w = all_within cs small in (cells_all ∙ w, cells_counted ∙ ap length w);
  }
