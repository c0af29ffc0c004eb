-- How the pass over the LABs goes: no LAB below `lab` breaks a rule, and the route bytes and the tries of the occupied ones below are put. A LAB without
-- cells breaks none and has eight 255s and no tries. Assumes nothing.
use Prim.Native.Nat.{ℕ, zero, suc, ◌+◌, ◌*◌, ◌<◌, ◌≤◌}
use native.Mathlib.Numerals.{add-one}
use native.Mathlib.Omega.{arith}
use mathlib.Core.Path.{◌≡◌, refl, sym, subst, ap, ◌∙◌}
use mathlib.Core.Bool.{Bool, true, false, cond, not}
use Rattle.std.specs.Prelude.{Some, None, Result, Ok, Err}
use Rattle.sheet.specs.Refusals.{number_of}
use Rattle.sheet.specs.declared.refusal.Refusal.{Refusal}
use Rattle.sheet.proofs.Refusals.{refused_number}
use Rattle.route.specs.declared.Search.{Search}
use Rattle.lab_rules.specs.Rules.{lab_result_from}
use Rattle.sheet.proofs.Laws.{by_test}
use mathlib.Core.List.{List}
use lib.ListN.{length, get_or, set, replicate}
use lib.Dec.{eqb}
use borrow.Author.Tests.{eq-eqb, lt-ltb, le-ltb, ltb-false}
use Rattle.sheet.specs.Lists.{first_from}
use Rattle.exercise.specs.declared.Record.{Record}
use Rattle.sheet.proofs.Scan.{Scanned, scan_starts, scan_goes_at, scan_stops_at, scan_ends}
use Rattle.entries.specs.Table.{Table}
use Rattle.lab_rules.specs.passes.Counts.{LabSearch, lab_search_from}
use Rattle.sheet.specs.Checks.{NONE}
use Rattle.lab_pass.specs.passes.Links.{walk}
use Rattle.lab_pass.specs.passes.Results.{search_of, search_at, result_at, tries_at, broken_lab, LowestBroken, lowest_broken, has_cells, EmptyUnless, put_row, put_rows, put_tries, searched_labs}
use Rattle.lab_pass.proofs.Linked.{walk_past}
use Rattle.lab_pass.proofs.Taking.{search_none}

module _ (t : Table) (get : ℕ → Record) (first next : List ℕ) where
  abbrev bytes_of : ℕ → List ℕ
  bytes_of l = (result_at t get first next l).bytes

  -- ---- a LAB without cells, and what was found
  pub none_in : (l : ℕ) → has_cells first next l ≡ false → search_at t get first next l ≡ record { result = record { number = 0; bytes = replicate 8 255 }; tries = 0 }
  unfolding has_cells search_at
  none_in l h = rw (walk_past next (get_or first l NONE) 512 (ltb-false (get_or first l NONE) (length next) h)) (search_none t get)

  no_start : (l : ℕ) → None ≡ cond (has_cells first next l) (Some (get_or first l NONE)) None → has_cells first next l ≡ false
  no_start l h = by_test (has_cells first next l) (λ t. let some : None ≡ Some (get_or first l NONE) = rw t at h in absurd (cc)) (λ t. t)

  given_start : (l start : ℕ) → Some start ≡ cond (has_cells first next l) (Some (get_or first l NONE)) None
      → (has_cells first next l ≡ true) × (start ≡ get_or first l NONE)
  given_start l start h =
      by_test (has_cells first next l) (λ t. (t, let same : Some start ≡ Some (get_or first l NONE) = rw t at h in cc))
      (λ t. let none : Some start ≡ None = rw t at h in absurd (cc))

  module _ (r : LowestBroken) (found : r ≡ lowest_broken t get first next) where
    pub lowest_lab : r.lab ≡ first_from (broken_lab t get first next) 0 1024
    unfolding lowest_broken
    lowest_lab = ap (λ (x : LowestBroken). x.lab) found

    pub lowest_number : r.lab < 1024 → r.number ≡ (result_at t get first next r.lab).number
    unfolding lowest_broken
    lowest_number h = ap (λ (x : LowestBroken). x.number) found ∙ rw (← lowest_lab) (rw (lt-ltb r.lab 1024 h))

  -- ---- the pass; the rows were rows₀, the list of tries list₀
  pub record Passed (rows₀ list₀ rows list : List ℕ) (lab : ℕ) : Type 0 where
    pub kept : Scanned (broken_lab t get first next) 1024 lab
    pub put : rows ≡ put_rows (has_cells first next) bytes_of rows₀ lab
    pub counted : list ≡ put_tries (has_cells first next) (tries_at t get first next) list₀ lab

  pub pass_starts : (rows list : List ℕ) → Passed rows list rows list 0
  unfolding put_rows put_tries
  pass_starts rows list = record { kept = scan_starts _ 1024; put = refl; counted = refl }

  module _ (rows₀ list₀ rows list : List ℕ) (lab : ℕ) (p : Passed rows₀ list₀ rows list lab) where
    -- what the pass answers where it stops at LAB l with number n
    abbrev Answer : ℕ → ℕ → List ℕ → Type 0
    Answer l n after =
        (record { lab = l; number = n } ≡ lowest_broken t get first next) × ((rows ≡ put_rows (has_cells first next) bytes_of rows₀ l)
        × (after ≡ put_tries (has_cells first next) (tries_at t get first next) list₀ (searched_labs l)))

    pub pass_ends : 1024 ≤ lab → Answer 1024 0 list
    unfolding lowest_broken
    pass_ends h =
        let end : lab ≡ 1024 = omega (arith, p.kept.within) in
        subst (λ (l : ℕ). Answer l 0 list) end
        (rw (← scan_ends _ 1024 lab p.kept h, le-ltb lab 1024 h), (p.put, p.counted ∙ rw (le-ltb lab 1024 h)))

    module _ (h : lab < 1024) where
      pass_empty : has_cells first next lab ≡ false → Passed rows₀ list₀ rows list (lab + 1)
      unfolding put_rows put_tries broken_lab
      pass_empty empty =
          record {
            kept = scan_goes_at _ 1024 lab p.kept h (ap (λ (x : LabSearch). not (eqb x.result.number 0)) (none_in lab empty));
            put = p.put ∙ rw (add-one, empty);
            counted = p.counted ∙ rw (add-one, empty);
          }

      pub pass_skips : None ≡ cond (has_cells first next lab) (Some (get_or first lab NONE)) None → Passed rows₀ list₀ rows list (lab + 1)
      pass_skips n = pass_empty (no_start lab n)

      module _ (start : ℕ) (some : Some start ≡ cond (has_cells first next lab) (Some (get_or first lab NONE)) None)
          (s : Search (Result (List ℕ) Refusal)) (k : lab_search_from s ≡ search_of t get (walk next start 512)) where
        in_use : has_cells first next lab ≡ true
        in_use = (given_start lab start some).0

        here : lab_search_from s ≡ search_at t get first next lab
        unfolding search_at
        here = rw (← (given_start lab start some).1) k

        -- the number and the bytes of what the search gave
        number_here : (found : Result (List ℕ) Refusal) → s.found ≡ found → (result_at t get first next lab).number ≡ (lab_result_from found).number
        number_here found e = ap (λ (x : LabSearch). x.result.number) (sym here) ∙ ap (λ (x : Result (List ℕ) Refusal). (lab_result_from x).number) e

        bytes_here : (found : Result (List ℕ) Refusal) → s.found ≡ found → (result_at t get first next lab).bytes ≡ (lab_result_from found).bytes
        bytes_here found e = ap (λ (x : LabSearch). x.result.bytes) (sym here) ∙ ap (λ (x : Result (List ℕ) Refusal). (lab_result_from x).bytes) e

        -- the tries of the LAB itself
        put_here : put_tries (has_cells first next) (tries_at t get first next) list₀ (lab + 1) ≡ set list lab s.tries
        unfolding put_tries
        put_here = rw (p.counted, add-one, in_use) (ap (λ (x : LabSearch). set (put_tries (has_cells first next) (tries_at t get first next) list₀ lab) lab x.tries) (sym here))

        pub pass_goes : (bytes : List ℕ) → s.found ≡ Ok bytes → (rows' list' : List ℕ) → rows' ≡ put_row rows lab bytes → list' ≡ set list lab s.tries
            → Passed rows₀ list₀ rows' list' (lab + 1)
        unfolding put_rows broken_lab
        pass_goes bytes e rows' list' a b =
            record {
              kept = scan_goes_at _ 1024 lab p.kept h (ap not (eq-eqb _ 0 (number_here (Ok bytes) e)));
              put = a ∙ rw (p.put, add-one, in_use, bytes_here (Ok bytes) e);
              counted = b ∙ sym put_here;
            }

        pub pass_stops : (refusal : Refusal) → s.found ≡ Err refusal → (list' : List ℕ) → list' ≡ set list lab s.tries → Answer lab (number_of refusal) list'
        unfolding lowest_broken broken_lab
        pass_stops refusal e list' b =
            let number = number_here (Err refusal) e in
            let found = scan_stops_at _ 1024 lab p.kept h (ap not (ap (λ (n : ℕ). eqb n 0) number ∙ refused_number refusal)) in
            (rw (← found, lt-ltb lab 1024 h, number), (p.put, b ∙ sym put_here ∙ rw (lt-ltb lab 1024 h)))

  -- ---- LABs without cells, one after the other
  module _ (rows₀ list₀ rows list : List ℕ) where
    pass_skips_all : (lab n : ℕ) → lab + n ≤ 1024 → ((k : ℕ) → k < n → has_cells first next (lab + k) ≡ false) → Passed rows₀ list₀ rows list lab
        → Passed rows₀ list₀ rows list (lab + n)
    pass_skips_all lab zero h empty p = subst (λ (l : ℕ). Passed rows₀ list₀ rows list l) (omega arith) p
    pass_skips_all lab (suc n) h empty p =
        let before = pass_skips_all lab n (omega (arith, h)) (λ k i. empty k (omega (arith, i))) p in
        subst (λ (l : ℕ). Passed rows₀ list₀ rows list l) (omega arith)
        (pass_empty rows₀ list₀ rows list (lab + n) before (omega (arith, h)) (empty n (omega arith)))

    pub pass_skips_group : (group : ℕ) (b : Bool) → group < 128 → EmptyUnless (has_cells first next) (8 * group) 8 b → b ≡ false
        → Passed rows₀ list₀ rows list (8 * group) → Passed rows₀ list₀ rows list (8 * (group + 1))
    pass_skips_group group b h none e p =
        subst (λ (l : ℕ). Passed rows₀ list₀ rows list l) (omega arith) (pass_skips_all (8 * group) 8 (omega (arith, h)) (none.empty e) p)
