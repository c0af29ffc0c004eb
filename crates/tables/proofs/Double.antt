-- After the cells below i, net k is marked exactly where the code of net k is among the outputs that those cells drive. So the marks find the
-- first cell that drives a net twice. Assumes nothing.
use Prim.Native.Nat.{ℕ, zero, suc, ◌+◌, ◌*◌, ◌≤◌, ◌<◌}
use mathlib.Core.Path.{◌≡◌, refl, sym, ap, ◌∙◌}
use mathlib.Core.Bool.{Bool, true, false, cond, ◌||◌, or_assoc, or_comm, or-false}
use mathlib.Core.List.{List, [], ◌∷◌}
use native.Mathlib.Omega.{arith}
use lib.ListN.{length, get_or, replicate, length-replicate}
use lib.Seq.{get_or-set_same, get_or-set_other}
use lib.Dec.{eqb}
use borrow.Author.Tests.{ne_eqb, eqb-true, eqb-false, leb-true, not-false}
use Rattle.sheet.specs.Lists.{filterb, elemb, first_from}
use Rattle.sheet.specs.Signal.{connected, is_net, net_of, is_inverted, is_bad_output}
use Rattle.exercise.specs.Exercise.{net_count, record_part}
use Rattle.exercise.specs.Record.{record_at, outputs}
use Rattle.sheet.proofs.Laws.{by_test}
use Rattle.sheet.proofs.Signals.{upright_even}
use Rattle.tables.specs.Records.{cell, driven, driven_twice, driven_below, double_driver}
use Rattle.tables.specs.passes.Tables.{is_marked, with_mark, marked_twice, mark_each, double_from, double_number}
use Rattle.sheet.proofs.Lists.{elem_first, elem_rest, any_append, concat-suc, get_or-all}
use Rattle.tables.proofs.Stores.{placed_length}
use Rattle.tables.proofs.Decoded.{outputs_good, good_output}

-- the code of net k
abbrev pub code_of : ℕ → ℕ
code_of k = 4 + 2 * k

abbrev marked : List Bool → ℕ → Bool
marked t k = get_or t k false

pub code_net : (s : ℕ) → is_net s ≡ true → is_inverted s ≡ false → code_of (net_of s) ≡ s
code_net s n i = let a = leb-true 4 s n in let x = upright_even s n i in omega arith

pub unconnected : (s : ℕ) → connected s ≡ false → s ≡ 0
unconnected s h = eqb-true s 0 (not-false (eqb s 0) h)

-- no output of the list is bad
abbrev Good : ℕ → List ℕ → Type 0
Good nets os = (s : ℕ) → elemb s os ≡ true → is_bad_output nets s ≡ false

-- ---- one output
mark_length : (t : List Bool) (o : ℕ) → length (with_mark t o) ≡ length t
unfolding with_mark
mark_length t o = placed_length t o true

-- the marked nets are those driven before
abbrev Marks : List Bool → List ℕ → Type 0
Marks t before = (k : ℕ) → marked t k ≡ elemb (code_of k) before

module _ (nets : ℕ) where
  mark_at : (t : List Bool) (o k : ℕ) → nets ≤ length t → is_bad_output nets o ≡ false → marked (with_mark t o) k ≡ eqb (code_of k) o || marked t k
  unfolding with_mark
  mark_at t o k fits g =
      by_test (connected o)
      (λ c. let h = good_output nets o g c in
      let b : net_of o < length t = omega (arith, h.2) in
      rw h.0 (by_test (eqb (code_of k) o)
      (λ e. let q : k ≡ net_of o = omega (arith, eqb-true (code_of k) o e) in rw (e, q, get_or-set_same t (net_of o) true false b))
      (λ e. rw (e, get_or-set_other t (net_of o) k true false (λ q. eqb-false (code_of k) o e (ap code_of q ∙ code_net o h.0 h.1))))))
      (λ c. rw (unconnected o c, ne_eqb (code_of k) 0 (λ q. omega arith)))

  -- ---- the outputs of a cell
  each_length : (t : List Bool) (os : List ℕ) → length (mark_each t os) ≡ length t
  unfolding mark_each
  each_length t [] = refl
  each_length t (o ∷ os) = each_length (with_mark t o) os ∙ mark_length t o

  each_at : (t : List Bool) (os : List ℕ) (k : ℕ) → nets ≤ length t → Good nets os → marked (mark_each t os) k ≡ marked t k || elemb (code_of k) (filterb connected os)
  unfolding mark_each with_mark
  each_at t [] k fits g = sym (or-false (marked t k))
  each_at t (o ∷ os) k fits g =
      each_at (with_mark t o) os k (rw (mark_length t o) fits) (λ s m. g s (elem_rest s o os m))
      ∙ by_test (connected o)
      (λ c. rw (c, mark_at t o k fits (g o (elem_first o os)), or_comm (eqb (code_of k) o) (marked t k))
      (or_assoc (marked t k) (eqb (code_of k) o) (elemb (code_of k) (filterb connected os))))
      (λ c. rw (unconnected o c))

  marked_is : (t : List Bool) (before os : List ℕ) → nets ≤ length t → Good nets os → Marks t before → marked_twice t os ≡ driven_twice before (filterb connected os)
  unfolding marked_twice is_marked with_mark
  marked_is t before [] fits g m = refl
  marked_is t before (o ∷ os) fits g m =
      let first = g o (elem_first o os) in
      let rest : Good nets os = λ s m. g s (elem_rest s o os m) in
      by_test (connected o)
      (λ c. let h = good_output nets o first c in
      let later = marked_is (with_mark t o) (o ∷ before) os (rw (mark_length t o) fits) rest (λ k. mark_at t o k fits first ∙ rw (m k)) in
      rw (c, later, h.0, m (net_of o), code_net o h.0 h.1))
      (λ c. rw (unconnected o c) (marked_is t before os fits rest m))

-- ---- the cells
double_from_lem : (e : List ℕ) (t : List Bool) (i k : ℕ) → net_count e ≤ length t → Marks t (driven_below e i)
    → double_from (cell e) t i k ≡ first_from (double_driver e) i k
unfolding double_from first_from double_driver driven cell record_at
double_from_lem e t i zero fits m = refl
double_from_lem e t i (suc k) fits m =
    let nets = net_count e in
    let os = outputs (record_at nets e i) in
    let good : Good nets os = outputs_good nets (record_part e i) in
    let later : Marks (mark_each t os) (driven_below e (suc i)) =
    λ k. each_at nets t os k fits good ∙ rw (m k, concat-suc (λ j. driven (cell e j)) i)
    (sym (any_append (eqb (code_of k)) (driven_below e i) (driven (cell e i)))) in
    rw (marked_is nets t (driven_below e i) os fits good m)
    (ap (cond (double_driver e i) i) (double_from_lem e (mark_each t os) (suc i) k (rw (each_length nets t os) fits) later))

double_for : (m : ℕ) (e : List ℕ) (n : ℕ) → net_count e ≤ m → double_from (cell e) (replicate m false) 0 n ≡ first_from (double_driver e) 0 n
double_for m e n fits = double_from_lem e (replicate m false) 0 n (rw (length-replicate {A = Bool} m false) fits) (λ k. rw (get_or-all {A = Bool} m k false))

-- 16
pub double_is : (e : List ℕ) (n : ℕ) → net_count e ≤ 1024 → double_number (cell e) n ≡ first_from (double_driver e) 0 n
double_is e n fits = double_for 1024 e n fits
