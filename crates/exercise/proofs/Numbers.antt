-- Document 01's number and values of what `record_of` answers. Assumes nothing.
use Prim.Native.Nat.{ℕ, ◌≤◌}
use native.Mathlib.Omega.{arith}
use mathlib.Core.Path.{◌≡◌, refl, sym, ap, ◌∙◌}
use mathlib.Core.Bool.{true, false, cond, not, ◌||◌, true≢false}
use mathlib.Core.List.{List, []}
use lib.ListN.{length}
use lib.Dec.{eqb, ltb}
use borrow.Author.Tests.{eqb-true, eqb-false, ne_eqb, ltb-false, not-true}
use Rattle.sheet.specs.Signal.{connected}
use Rattle.exercise.specs.Record.{kind_of, flag_of, code_at, combinational_of, register_of, bad_combinational, bad_register, bad_tail}
use Rattle.exercise.specs.Record.{keeps_combinational, keeps_register, breaks_layout, record_fields, record_of, record_number, record_values}
use Rattle.exercise.specs.Record.{combinational_values, register_values}
use Rattle.exercise.specs.declared.Record.{Record}
use Rattle.exercise.specs.declared.Record.TheVariants.{Combinational, Register, Malformed}
use Rattle.sheet.proofs.Laws.{by_test, or_parts}

kind_once : (k : ℕ) → eqb k 1 ≡ true → eqb k 2 ≡ false
kind_once k h = let e = eqb-true k 1 h in ne_eqb k 2 (λ z. omega arith)

unconnected : (s : ℕ) → connected s ≡ false → s ≡ 0
unconnected s h = by_test (eqb s 0) (λ e. eqb-true s 0 e) (λ e. absurd (true≢false (rw e at h)))

flag_same : (f : ℕ) → f ≤ 1 → cond (eqb f 1) 1 0 ≡ f
flag_same f h = by_test (eqb f 1) (λ e. rw e (sym (eqb-true f 1 e))) (λ e. rw e (omega (arith, eqb-false f 1 e)))

module _ (nets : ℕ) (p : List ℕ) where
  -- what is said of each kind of record is said of what a part says
  record_by : {A : Type 0} (f : Record → A) (y : A)
      → (eqb (kind_of p) 1 ≡ true → keeps_combinational nets p ≡ true → f (Combinational (combinational_of p)) ≡ y)
      → (eqb (kind_of p) 2 ≡ true → keeps_register nets p ≡ true → f (Register (register_of p)) ≡ y)
      → f (record_of nets p) ≡ cond (breaks_layout nets p) (f Malformed) y
  unfolding record_of breaks_layout
  record_by f y one two =
      by_test (not (eqb (length p) 24)) (λ l. rw l)
      (λ l. by_test (eqb (kind_of p) 1)
      (λ k. by_test (keeps_combinational nets p) (λ h. rw (l, k, h) (one k h)) (λ h. rw (l, k, h, kind_once (kind_of p) k)))
      (λ k. by_test (eqb (kind_of p) 2)
      (λ r. by_test (keeps_register nets p) (λ h. rw (l, k, r, h) (two r h)) (λ h. rw (l, k, r, h)))
      (λ r. rw (l, k, r))))

  -- 15
  pub record_number_lem : record_number (record_of nets p) ≡ cond (breaks_layout nets p) (record_number Malformed) 0
  record_number_lem = record_by record_number 0 (λ k h. refl) (λ k h. refl)

  -- the last three signals are zero
  tail_zero : bad_tail p ≡ false → (code_at p 8 ≡ 0) × (code_at p 9 ≡ 0) × (code_at p 10 ≡ 0)
  unfolding bad_tail
  tail_zero h =
      let a = or_parts (connected (code_at p 8) || connected (code_at p 9)) (connected (code_at p 10)) h in
      let b = or_parts (connected (code_at p 8)) (connected (code_at p 9)) a.0 in
      (unconnected (code_at p 8) b.0, unconnected (code_at p 9) b.1, unconnected (code_at p 10) a.1)

  -- a cell has the values of the bytes
  combinational_fields : eqb (kind_of p) 1 ≡ true → keeps_combinational nets p ≡ true → combinational_values (combinational_of p) ≡ record_fields p
  unfolding keeps_combinational record_fields
  combinational_fields k h =
      let bad = bad_combinational nets (combinational_of p) in
      let a = or_parts (ltb 1 (flag_of p) || bad || connected (code_at p 7)) (bad_tail p) (not-true _ h) in
      let b = or_parts (ltb 1 (flag_of p) || bad) (connected (code_at p 7)) a.0 in
      let c = or_parts (ltb 1 (flag_of p)) bad b.0 in
      let t = tail_zero a.1 in
      rw (eqb-true (kind_of p) 1 k, flag_same (flag_of p) (ltb-false _ _ c.0), unconnected (code_at p 7) b.1, t.0, t.1, t.2)

  register_fields : eqb (kind_of p) 2 ≡ true → keeps_register nets p ≡ true → register_values (register_of p) ≡ record_fields p
  unfolding keeps_register record_fields
  register_fields k h =
      let bad = bad_register nets (register_of p) in
      let a = or_parts (ltb 0 (flag_of p) || bad) (bad_tail p) (not-true _ h) in
      let b = or_parts (ltb 0 (flag_of p)) bad a.0 in
      let t = tail_zero a.1 in
      let none : flag_of p ≡ 0 = omega (arith, ltb-false 0 (flag_of p) b.0) in
      rw (eqb-true (kind_of p) 2 k, none, t.0, t.1, t.2)

  pub record_values_lem : record_values (record_of nets p) ≡ cond (breaks_layout nets p) [] (record_fields p)
  record_values_lem = record_by record_values (record_fields p) combinational_fields register_fields

  -- what a contract says of an answer that is the definition's
  pub record_says : {r : Record} → r ≡ record_of nets p → record {
    says : r ≡ record_of nets p;
    number : record_number r ≡ cond (breaks_layout nets p) (record_number Malformed) 0;
    values : record_values r ≡ cond (breaks_layout nets p) [] (record_fields p);
  }
  record_says e = record { says = e; number = ap record_number e ∙ record_number_lem; values = ap record_values e ∙ record_values_lem }
