-- Refusal 65 names a LAB exactly when the four things of demand 3 are true of it. Assumes nothing.
use Prim.Native.Nat.{ℕ, ◌<◌, ◌≤◌}
use mathlib.Core.Path.{◌≡◌, refl, sym, ap, ◌∙◌}
use mathlib.Core.Logic.{◌↔◌}
use mathlib.Core.Bool.{Bool, true, false, cond, not, true≢false}
use mathlib.Core.List.{List, [], ◌∷◌, ◌++◌, map}
use native.Mathlib.Decide.{dec_lt}
use native.Mathlib.Omega.{arith}
use lib.Dec.{eqb, ltb}
use borrow.Author.Tests.{eqb-true, ne_eqb, lt-ltb, le-ltb}
use Rattle.sheet.specs.Lists.{concat_map, below, first_from}
use Rattle.sheet.specs.Checks as sheet
use Rattle.exercise.specs.Exercise.{cell_count}
use Rattle.exercise.specs.declared.Record.{Record}
use Rattle.sheet.proofs.Laws.{by_test}
use Rattle.sheet.proofs.Lists.{filter_none}
use Rattle.sheet.proofs.Scan.{any_below}
use Rattle.tables.specs.Records.{cell, cell_numbers}
use Rattle.entries.specs.Table.{Table}
use Rattle.route.specs.Way.{Way}
use Rattle.route.proofs.AllWays.{earliest_some, no_needs_lem}
use Rattle.lab_rules.specs.Ports.{in_lab}
use Rattle.lab_rules.specs.Rules.{needs, no_way, lab_rules, lab_checks, lab_number}
use Rattle.lab_rules.proofs.Routes.{stuck, goes, told}
use Rattle.placing.specs.Places.{lab_at}
use Rattle.placing.specs.Members.{members}
use Rattle.sheet.specs.Checks.{NONE}
use Rattle.verdict.specs.declared.Finding.{Finding}
use Rattle.judge.specs.Call.{Call, in_force}
use Rattle.judge.specs.Judge.{Check, of_lab, lab_cells, occupied, lab_group, checks_to51, checks, first_broken, judged}
use Rattle.verdict.specs.Verdicts.{finding, verdict_of}
use Rattle.verdict.specs.Numbers.{numbers_to51}
use Rattle.judge.specs.Demands.{AllHold, FourThings, Keeps60to64, Keeps65, lab_needs}
use Rattle.judge.proofs.Broken.{NumberedIn, skip_held, breaks_one, labs_find}
use Rattle.sheet.proofs.First.{before_first, first_is, none_first}
use Rattle.judge.proofs.Numbers.{later_held, rules_numbered, lab_numbered, to_51_known}
use Rattle.judge.proofs.Held.{hold_number}
use Rattle.judge.proofs.Kept.{places_held}
use Rattle.placing.proofs.Places.{lab_in_range}

-- checks of a LAB that give no number hold
number_hold : (l : ℕ) (ks : List sheet.Check) → NumberedIn ks → sheet.first_number ks ≡ 0 → AllHold (of_lab l ks)
unfolding AllHold
number_hold l [] n h = tt
number_hold l (k ∷ ks) n h = by_test k.broken (λ q. absurd (n.0 (rw q at h))) (λ q. (q, number_hold l ks n.1 (rw q at h)))

unset : (n : ℕ) → not (eqb n 0) ≡ false → n ≡ 0
unset n h = by_test (eqb n 0) (λ q. eqb-true n 0 q) (λ q. absurd (true≢false (rw q at h)))

-- ---- the first LAB that breaks a check has n as its number; g j are the checks of LAB j
module _ (g : ℕ → List sheet.Check) (numbered : (j : ℕ) → NumberedIn (g j)) (k l n : ℕ) (Some-number : n ≡ 0 → ⊥) where
  abbrev first : Finding
  first = first_broken (concat_map (λ j. of_lab j (g j)) (below k))

  abbrev at_first : ℕ
  at_first = first_from (breaks_one g) 0 k

  lab_from : first.number ≡ n → first.lab ≡ l → ((j : ℕ) → j < l → sheet.first_number (g j) ≡ 0) × (sheet.first_number (g l) ≡ n)
  lab_from u v =
      let finds = labs_find g k numbered in
      by_test (ltb at_first k)
      (λ q. let here : first ≡ finding (sheet.first_number (g at_first)) NONE at_first = rw q at finds in
      let is : at_first ≡ l = rw here at v in
      (λ j h. unset (sheet.first_number (g j)) (before_first (breaks_one g) k 0 j (omega arith) (omega arith)), rw is at (rw here at u)))
      (λ q. absurd (Some-number (sym (rw (finds, q) at u))))

  pub lab_to : l < k → ((j : ℕ) → j < l → sheet.first_number (g j) ≡ 0) → sheet.first_number (g l) ≡ n → first ≡ finding n NONE l
  lab_to h low u =
      let is : at_first ≡ l = first_is (breaks_one g) k 0 l (omega arith) (omega arith) (λ j a b. rw (low j b)) (rw (u, ne_eqb n 0 Some-number)) in
      labs_find g k numbered ∙ rw (is, lt-ltb l k h, u)

-- ---- a LAB that has no way has a cell, so its number is below 1024
module _ (c : Call) (l : ℕ) where
  abbrev t : Table
  t = in_force c

  -- an empty LAB has no cells
  pub no_cells : occupied c l ≡ false → lab_cells c l ≡ []
  unfolding occupied lab_cells members
  no_cells h = ap (map (cell c.exercise)) (filter_none (λ i. eqb (lab_at c.answer i) l) (cell_numbers c.exercise) h)

  nobody : AllHold (checks_to51 c) → 1024 ≤ l → lab_cells c l ≡ []
  unfolding occupied
  nobody h g =
      let a = c.answer in
      let n = cell_count c.exercise in
      let here : ℕ → Bool = λ i. eqb (lab_at a i) l in
      let none-there = none_first here n (λ i m. ne_eqb (lab_at a i) l (λ q. omega (arith, lab_in_range a i (places_held c h i m)))) in
      no_cells (any_below here n ∙ rw none-there (le-ltb n n (omega arith)))

  on_board : FourThings c l → l < 1024
  unfolding lab_needs needs in_lab
  on_board f =
      let alone : 1024 ≤ l → Way t (lab_needs c l) [] = λ h. rw (nobody f.to_51_hold h) (earliest_some t [] [] (no_needs_lem t)).0 in
      elim (dec_lt l 1024) [ yes h ↦ h | no h ↦ absurd (f.has_no_way [] (alone (omega arith))) ]

  abbrev cells : ℕ → List Record
  cells = lab_cells c

  abbrev rules : ℕ → List sheet.Check
  rules j = lab_checks t (cells j)

  numbered : (j : ℕ) → NumberedIn (rules j)
  numbered j = lab_numbered t (cells j)

  -- the number of LAB j
  number_told : (j : ℕ) (b : Bool)
      → (sheet.first_number (rules j) ≡ cond b 65 0) ↔ (AllHold (of_lab j (lab_rules (cells j))) × (no_way t (cells j) ≡ b))
  unfolding AllHold lab_number
  number_told j b = (
    λ q. let g = (told t (cells j) b).0 q in (number_hold j (lab_rules (cells j)) (rules_numbered (cells j)) g.0, g.1),
    λ h. (told t (cells j) b).1 (hold_number j (lab_rules (cells j)) h.0, h.1),
  )

  four_things : AllHold (checks_to51 c) → (first_broken (lab_group c)).number ≡ 65 → (first_broken (lab_group c)).lab ≡ l
      → FourThings c l
  unfolding lab_group Keeps60to64 Keeps65 lab_needs
  four_things h n p =
      let low = lab_from rules numbered 1024 l 65 (λ q. omega arith) n p in
      let here = (number_told l true).0 low.1 in
      record {
        to_51_hold = h;
        lower_keep = λ j m. let k = (number_told j false).0 (low.0 j m) in (k.0, (goes t (cells j)).0 k.1);
        keeps_to_64 = here.0;
        has_no_way = (stuck t (cells l)).0 here.1;
      }

  found_65 : FourThings c l → first_broken (checks c) ≡ finding 65 NONE l
  unfolding checks lab_group Keeps60to64 Keeps65 lab_needs
  found_65 f =
      skip_held (checks_to51 c) (lab_group c) f.to_51_hold
      ∙ lab_to rules numbered 1024 l 65 (λ q. omega arith) (on_board f)
      (λ j m. let k = f.lower_keep j m in (number_told j false).1 (k.0, (goes t (cells j)).1 k.1))
      ((number_told l true).1 (f.keeps_to_64, (stuck t (cells l)).1 f.has_no_way))

  abbrev early : List Check
  early = checks_to51 c

  -- 65 is none of the numbers 1 to 51
  early_held : (first_broken (early ++ lab_group c)).number ≡ 65 → AllHold early
  early_held n = later_held 65 numbers_to51 refl early (lab_group c) (to_51_known c) n

  pub refusal_65 : (((judged c).number ≡ 65) × ((judged c).lab ≡ l)) ↔ FourThings c l
  unfolding judged verdict_of checks
  refusal_65 = (
    λ p. let held = early_held p.0 in
        let later = skip_held early (lab_group c) held in
        four_things held (rw later at p.0) (rw later at p.1),
    λ f. (ap (λ (x : Finding). x.number) (found_65 f), ap (λ (x : Finding). x.lab) (found_65 f)),
  )
