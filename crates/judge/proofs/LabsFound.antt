-- The lists by LAB give each LAB its cells, so the results found from them are those of document 01's rules. Assumes nothing.
use Prim.Native.Nat.{ℕ, zero, suc, ◌+◌, ◌<◌}
use native.Mathlib.Omega.{arith}
use mathlib.Core.Path.{◌≡◌, refl, sym, ap, ◌∙◌}
use mathlib.Core.Logic.{◌⊎◌, inl, inr, ⊎_elim}
use mathlib.Core.Bool.{Bool, false}
use mathlib.Core.List.{List, map}
use lib.ListN.{length, get_or, replicate}
use lib.Dec.{eqb}
use borrow.Author.Tests.{eq-eqb}
use Rattle.sheet.specs.Lists.{concat_map, filterb, from}
use Rattle.exercise.specs.Exercise.{cell_count}
use Rattle.exercise.specs.passes.Known.{known_at}
use Rattle.exercise.specs.declared.Record.{Record}
use Rattle.sheet.proofs.Laws.{by_test}
use Rattle.entries.specs.Table.{Table}
use Rattle.route.specs.Served.{SameServed}
use Rattle.lab_rules.specs.Rules.{lab_checks, lab_number, route_of, lab_result, lab_tries}
use Rattle.lab_rules.specs.passes.Counts.{AllFit}
use Rattle.lab_rules.specs.Rules.{LabResult}
use Rattle.lab_rules.specs.passes.Counts.{LabSearch}
use Rattle.lab_rules.proofs.Served.{same_result, same_tries}
use Rattle.tables.specs.Records.{cell}
use Rattle.placing.specs.Places.{lab_at}
use Rattle.placing.specs.Members.{members}
use Rattle.lab_pass.specs.passes.Results.{search_of, search_at, result_at, tries_at, has_cells, put_rows}
use Rattle.lab_pass.proofs.Linked.{walk_members}
use Rattle.lab_pass.proofs.Labs.{result_is_lab, tries_is_lab}
use Rattle.lab_pass.proofs.Passing.{none_in}
use Rattle.lab_pass.proofs.Rows.{rows_put, bytes_eight}
use Rattle.sheet.specs.Checks.{NONE}
use Rattle.judge.specs.Call.{Call, in_force}
use Rattle.judge.specs.Judge.{lab_cells, lab_group, route_bytes, first_broken}
use Rattle.verdict.specs.Verdicts.{finding}
use Rattle.judge.specs.passes.Stages.{numbered_as, numbered_lab}
use Rattle.judge.specs.passes.Preparing.{linked}
use Rattle.judge.proofs.Broken.{labs_find}
use Rattle.judge.proofs.Numbers.{lab_numbered}
use Rattle.judge.proofs.Numbering.{numbered_same, numbered_none}
use Rattle.judge.proofs.Sound.{Sound}

-- 60 to 65
pub labs_finds : (c : Call) → first_broken (lab_group c) ≡ numbered_lab (λ l. lab_number (in_force c) (lab_cells c l))
unfolding lab_group numbered_as lab_number
labs_finds c = labs_find (λ l. lab_checks (in_force c) (lab_cells c l)) 1024 (λ l. lab_numbered (in_force c) (lab_cells c l))

-- two ways of reading the cells that agree give the same cells
map_same : (f g : ℕ → Record) (p : ℕ → Bool) (i k : ℕ) → ((j : ℕ) → j < i + k → f j ≡ g j) → map f (filterb p (from i k)) ≡ map g (filterb p (from i k))
map_same f g p i zero h = refl
map_same f g p i (suc k) h =
    let rest = map_same f g p (suc i) k (λ j b. h j (omega arith)) in
    by_test (p i) (λ t. rw (t, h i (omega arith), rest)) (λ t. rw (t, rest))

-- `u`: the table that the code has, whose entries serve what those in force do
module _ (c : Call) (s : Sound c.exercise) (fits : (l : ℕ) → AllFit (lab_cells c l)) (u : Table) (served : SameServed u (in_force c)) where
  abbrev t : Table
  t = in_force c

  abbrev e : List ℕ
  e = c.exercise

  abbrev a : List ℕ
  a = c.answer

  abbrev result_of_lab : ℕ → LabResult
  result_of_lab l = result_at u (known_at e) (linked a (cell_count e)).first (linked a (cell_count e)).next l

  members_known : (l : ℕ) → map (known_at e) (members a (cell_count e) l) ≡ lab_cells c l
  unfolding lab_cells members
  members_known l = map_same (known_at e) (cell e) (λ i. eqb (lab_at a i) l) 0 (cell_count e) (λ i b. s.known i (omega arith))

  search_at_lem : (l : ℕ) → l < 1024
      → search_at u (known_at e) (linked a (cell_count e)).first (linked a (cell_count e)).next l ≡ search_of u (known_at e) (members a (cell_count e) l)
  unfolding search_at
  search_at_lem l h = ap (search_of u (known_at e)) (walk_members a (cell_count e) l s.cells h)

  pub result_at_lem : (l : ℕ) → l < 1024 → result_of_lab l ≡ lab_result t (lab_cells c l)
  result_at_lem l h =
      ap (λ (r : LabSearch). r.result) (search_at_lem l h)
      ∙ result_is_lab u (known_at e) (members a (cell_count e) l) (rw (members_known l) (fits l)) ∙ ap (lab_result u) (members_known l)
      ∙ same_result u t served (lab_cells c l)

  -- the tries, where the LAB is legal or has no way
  pub tries_at_lem : (l : ℕ) → l < 1024 → ((result_of_lab l).number ≡ 0) ⊎ ((result_of_lab l).number ≡ 65)
      → tries_at u (known_at e) (linked a (cell_count e)).first (linked a (cell_count e)).next l ≡ lab_tries t (lab_cells c l)
  tries_at_lem l h kept =
      let same = ap (λ (r : LabSearch). r.result.number) (sym (search_at_lem l h)) in
      ap (λ (r : LabSearch). r.tries) (search_at_lem l h)
      ∙ tries_is_lab u (known_at e) (members a (cell_count e) l) (rw (members_known l) (fits l)) (⊎_elim (λ z. inl (same ∙ z)) (λ z. inr (same ∙ z)) kept)
      ∙ ap (lab_tries u) (members_known l) ∙ same_tries u t served (lab_cells c l)

  -- 60 to 65
  pub labs_are : numbered_lab (λ l. (result_of_lab l).number) ≡ first_broken (lab_group c)
  unfolding lab_result
  labs_are = numbered_same _ _ (λ l. lab_number t (lab_cells c l)) 1024 (λ l h. ap (λ (r : LabResult). r.number) (result_at_lem l h)) ∙ sym (labs_finds c)

  -- the route bytes, where no LAB is broken
  module _ (held : (first_broken (lab_group c)).number ≡ 0) where
    none_broken : (l : ℕ) → l < 1024 → lab_number t (lab_cells c l) ≡ 0
    none_broken l h = numbered_none (λ number lab. finding number NONE lab) (λ m i. refl) (λ k. lab_number t (lab_cells c k)) 1024 (rw labs_finds at held) l h

    bytes_are : (l : ℕ) → l < 1024 → (result_of_lab l).bytes ≡ route_of t (lab_cells c l)
    unfolding lab_result
    bytes_are l h = ap (λ (r : LabResult). r.bytes) (result_at_lem l h) ∙ rw (eq-eqb (lab_number t (lab_cells c l)) 0 (none_broken l h))

    rows_same : (g h : ℕ → List ℕ) (i k : ℕ) → ((l : ℕ) → l < i + k → g l ≡ h l) → concat_map g (from i k) ≡ concat_map h (from i k)
    rows_same g h i zero q = refl
    rows_same g h i (suc k) q = rw (q i (omega arith), rows_same g h (suc i) k (λ l b. q l (omega arith)))

    eight : (l : ℕ) → length (result_of_lab l).bytes ≡ 8
    unfolding search_at
    eight l = bytes_eight u (known_at e) _

    -- a LAB without cells has eight 255s
    abbrev in_use : ℕ → Bool
    in_use = has_cells (linked a (cell_count e)).first (linked a (cell_count e)).next

    none_routed : (l : ℕ) → in_use l ≡ false → (result_of_lab l).bytes ≡ replicate 8 255
    none_routed l h = ap (λ (r : LabSearch). r.result.bytes) (none_in u (known_at e) (linked a (cell_count e)).first (linked a (cell_count e)).next l h)

    pub routes_are : (rows : List ℕ) → ((j : ℕ) → j < length rows → get_or rows j 0 ≡ 255) → length rows ≡ 8192
        → put_rows in_use (λ l. (result_of_lab l).bytes) rows 1024 ≡ route_bytes c
    unfolding route_bytes
    routes_are rows blank z =
        rows_put in_use (λ l. (result_of_lab l).bytes) rows blank 1024 z (λ l h. none_routed l) (λ l h. eight l)
        ∙ rows_same (λ l. (result_of_lab l).bytes) (λ l. route_of t (lab_cells c l)) 0 1024 (λ l h. bytes_are l (omega arith))
