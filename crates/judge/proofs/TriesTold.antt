-- What stands in the list of tries on 0 and 65: the tries of each LAB up to a refused one, 0 above it and for an empty LAB, and no more than 19,173,960.
-- Assumes nothing.
use Prim.Native.Nat.{ℕ, ◌<◌, ◌≤◌}
use mathlib.Core.Path.{◌≡◌, refl, ◌∙◌}
use mathlib.Core.Logic.{inl, ⊎_elim}
use mathlib.Core.Bool.{false}
use mathlib.Core.List.{List, [], ◌∷◌, map}
use native.Mathlib.Nat.{eq-or-lt_of_le}
use native.Mathlib.Omega.{arith}
use lib.ListN.{length, get_or}
use lib.Dec.{ltb}
use borrow.Author.Tests.{lt-ltb, le-ltb, ltb-true, ltb-false}
use Rattle.sheet.specs.Lists.{below}
use Rattle.sheet.specs.Checks.{NONE, first_number}
use Rattle.sheet.proofs.Laws.{by_test}
use Rattle.sheet.proofs.Lists.{table_length, table_at}
use Rattle.route.specs.Tries.{tries}
use Rattle.route.proofs.Tries.{no_tries}
use Rattle.route.proofs.Limit.{tries_most}
use Rattle.settings.proofs.Laws.{table_rows}
use Rattle.lab_rules.specs.Ports.{in_lab}
use Rattle.lab_rules.specs.Rules.{needs, lab_rules, lab_checks, lab_number, lab_tries}
use Rattle.lab_rules.proofs.Checks.{rules_held, rules_kept}
use Rattle.lab_rules.proofs.Needed.{needs_eight}
use Rattle.judge.specs.Call.{Call, in_force}
use Rattle.judge.specs.Judge.{checks, checks_to51, lab_cells, occupied, judged, tries_of, tried}
use Rattle.verdict.specs.Verdicts.{verdict_of}
use Rattle.judge.specs.Demands.{OneOf, AllHold, lab_needs, Keeps60to64}
use Rattle.judge.specs.Tried.{TriesTold}
use Rattle.judge.proofs.Broken.{hold_legal}
use Rattle.judge.proofs.Held.{hold_number, legal_hold, to_51_holds, lab_holds}
use Rattle.judge.proofs.Kept.{all_kept, settings_passed}
use Rattle.judge.proofs.FitCells.{lab_fit}
use Rattle.judge.proofs.Refusal65.{no_cells, refusal_65}
use Rattle.judge.proofs.TriesFound.{one_of}

-- ---- the list as it is written
module _ (c : Call) (before : List ℕ) (told : OneOf (judged c) (0 ∷ 65 ∷ [])) where
  written : tried c before ≡ map (tries_of c) (below 1024)
  unfolding tried
  written = rw told refl

  as_long : length (tried c before) ≡ 1024
  as_long = rw written (table_length (tries_of c) 1024)

  number_at : (l : ℕ) → l < 1024 → get_or (tried c before) l 0 ≡ tries_of c l
  number_at l h = rw written (table_at (tries_of c) 0 1024 l h)

-- ---- one LAB
module _ (c : Call) (l : ℕ) where
  tries_above : (judged c).lab < l → tries_of c l ≡ 0
  unfolding tries_of
  tries_above h = rw (lt-ltb (judged c).lab l h)

  tries_own : l ≤ (judged c).lab → tries_of c l ≡ tries (in_force c) (lab_needs c l)
  unfolding tries_of lab_tries lab_needs
  tries_own h = rw (le-ltb (judged c).lab l h)

  -- a LAB without cells has no needs
  tries_empty : occupied c l ≡ false → tries_of c l ≡ 0
  unfolding tries_of lab_tries needs in_lab
  tries_empty h = by_test (ltb (judged c).lab l) (λ b. rw b) (λ b. rw (b, no_cells c l h) (no_tries (in_force c)))

-- ---- the limit: a LAB that keeps 60 to 63 has at most eight needs, and a board at most eight entries
module _ (c : Call) (holds : AllHold (checks_to51 c)) (l : ℕ) (kept : first_number (lab_rules (lab_cells c l)) ≡ 0) where
  lab_most : tries (in_force c) (lab_needs c l) ≤ 19173960
  unfolding lab_needs
  lab_most =
      let cs = lab_cells c l in
      let all = all_kept c holds in
      let h = rules_held cs kept in
      tries_most (in_force c) (needs cs) (table_rows c.settings (settings_passed c holds))
      (needs_eight cs (lab_fit c all.few all.keeps l) h.0 h.1 h.2 h.3)

module _ (c : Call) (l : ℕ) where
  legal_most : (judged c).number ≡ 0 → l < 1024 → tries (in_force c) (lab_needs c l) ≤ 19173960
  unfolding AllHold lab_number
  legal_most z h =
      lab_most c (to_51_holds c z) l (rules_kept (in_force c) (lab_cells c l) (inl (hold_number l (lab_checks (in_force c) (lab_cells c l)) (lab_holds c z l h))))

  refused_most : (judged c).number ≡ 65 → l ≤ (judged c).lab → tries (in_force c) (lab_needs c l) ≤ 19173960
  unfolding AllHold Keeps60to64
  refused_most z m =
      let four = (refusal_65 c (judged c).lab).0 (z, refl) in
      let rules = lab_rules (lab_cells c l) in
      ⊎_elim (λ q. lab_most c four.to_51_hold l (hold_number l rules (rw q four.keeps_to_64)))
      (λ b. lab_most c four.to_51_hold l (hold_number l rules (four.lower_keep l b).0))
      (eq-or-lt_of_le m)

most : (c : Call) (before : List ℕ) → OneOf (judged c) (0 ∷ 65 ∷ []) → (l : ℕ) → l < 1024 → get_or (tried c before) l 0 ≤ 19173960
most c before told l h =
    rw (number_at c before told l h)
    (by_test (ltb (judged c).lab l) (λ b. rw (tries_above c l (ltb-true (judged c).lab l b)) (omega arith))
    (λ b. let m = ltb-false (judged c).lab l b in
    rw (tries_own c l m) (⊎_elim (λ z. legal_most c l z h) (λ z. refused_most c l z m) (one_of (judged c).number told))))

-- a legal verdict names no LAB
no_lab : (c : Call) → (judged c).number ≡ 0 → (judged c).lab ≡ NONE
unfolding judged verdict_of
no_lab c z = rw (hold_legal (checks c) (legal_hold c z))

zero_told : (c : Call) → (judged c).number ≡ 0 → OneOf (judged c) (0 ∷ 65 ∷ [])
zero_told c z = rw z refl

refused_told : (c : Call) → (judged c).number ≡ 65 → OneOf (judged c) (0 ∷ 65 ∷ [])
refused_told c z = rw z refl

-- ---- THE THEOREM
pub tries_told : TriesTold
tries_told = record {
  as_long = as_long;
  legal = λ c before z l h. number_at c before (zero_told c z) l h ∙ tries_own c l (rw (no_lab c z) (omega arith));
  refused = λ c before z l h m. number_at c before (refused_told c z) l h ∙ tries_own c l m;
  empty = λ c before told l h o. number_at c before told l h ∙ tries_empty c l o;
  above = λ c before z l h m. number_at c before (refused_told c z) l h ∙ tries_above c l m;
  most = most;
}
