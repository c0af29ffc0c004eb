-- THE LAW of the list check beside the judge: the list of a LAB's records gets what the judge says of that LAB. Assumes nothing.
use Prim.Native.Nat.{ℕ, ◌*◌, ◌<◌}
use mathlib.Core.Path.{◌≡◌, sym, ap, ◌∙◌}
use mathlib.Core.Bool.{not}
use mathlib.Core.List.{List}
use native.Mathlib.Omega.{arith}
use lib.Dec.{eqb, ltb}
use Rattle.sheet.specs.Lists.{first_from}
use Rattle.sheet.specs.Bytes.{part_at}
use Rattle.exercise.specs.Exercise.{cell_count}
use Rattle.sheet.proofs.Laws.{by_test}
use Rattle.entries.specs.Table.{Table}
use Rattle.route.specs.Way.{earliest_way}
use Rattle.lab_rules.specs.Rules.{LabResult, needs, lab_checks, lab_number, route_of, lab_result}
use Rattle.sheet.specs.Checks.{NONE}
use Rattle.placing.specs.Members.{members}
use Rattle.verdict.specs.declared.Finding.{Finding}
use Rattle.judge.specs.Call.{Call, in_force}
use Rattle.judge.specs.Judge.{lab_cells, lab_group, checks_to51, checks, first_broken, judged, routed}
use Rattle.verdict.specs.Verdicts.{verdict_of}
use Rattle.judge.specs.passes.Stages.{numbered_as, numbered_lab}
use Rattle.judge.specs.Demands.{AllHold}
use Rattle.judge.proofs.Broken.{skip_held}
use Rattle.judge.proofs.LabsFound.{labs_finds}
use Rattle.judge.proofs.Numbers.{lab_numbered}
use Rattle.judge.proofs.Held.{hold_number, lab_holds}
use Rattle.judge.proofs.Refusal65.{lab_to}
use Rattle.judge.proofs.RouteHeld.{row_part, route_eight, written}
use Rattle.exercise.specs.Record.{Cell}
use Rattle.list_check.specs.ListCheck.{list_verdict}
use Rattle.list_check.specs.Agreement.{ListOf, ListLaw}
use Rattle.judge.proofs.Kept.{all_kept, settings_passed}
use Rattle.list_check.proofs.Crowd.{member_is, few_members}
use Rattle.list_check.proofs.AnyList.{same_verdict}
use Rattle.list_check.proofs.Sheets.{Whole, Keeping, list_of_sheet, passes_18}

-- a LAB that a numbering of the LABs names has the number that is found: where none is found, no LAB is named
named_number : (g : ℕ → ℕ) (l : ℕ) → l < 1024 → (numbered_lab g).lab ≡ l → (numbered_lab g).number ≡ g l
unfolding numbered_as
named_number g l low v =
    let at_first = first_from (λ j. not (eqb (g j) 0)) 0 1024 in
    by_test (ltb at_first 1024) (λ q. let here : at_first ≡ l = rw q at v in rw (q, here))
    (λ q. let none : NONE ≡ l = rw q at v in absurd (omega arith))

-- ---- the list of LAB l's records, where 1 to 51 hold
module _ (c : Call) (l : ℕ) (cs : List Cell) (low : l < 1024) (held : AllHold (checks_to51 c)) (copied : ListOf c l cs) where
  abbrev t : Table
  t = in_force c

  abbrev s : List ℕ
  s = c.settings

  lab_result_lem : list_verdict s cs ≡ lab_result t (lab_cells c l)
  unfolding ListOf lab_cells
  lab_result_lem =
      let kept = all_kept c held in
      let e = c.exercise in
      let is = members c.answer (cell_count e) l in
      let whole : Whole e is = λ i m. kept.whole i (member_is e c.answer l i m).0 in
      let keeps : Keeping e is = λ i m. kept.keeps i (member_is e c.answer l i m).0 in
      let by_number = copied.0 in
      same_verdict cs by_number copied.1 s
      ∙ list_of_sheet s e is by_number kept.few whole copied.2
      (passes_18 e is by_number kept.few whole keeps (few_members e c.answer kept l) copied.2) (settings_passed c held)

  list_number_lem : (list_verdict s cs).number ≡ lab_number t (lab_cells c l)
  unfolding lab_result
  list_number_lem = ap (λ (r : LabResult). r.number) lab_result_lem

  -- the judge finds what the checks of the LABs find
  of_labs : first_broken (checks c) ≡ first_broken (lab_group c)
  unfolding checks
  of_labs = skip_held (checks_to51 c) (lab_group c) held

  named : (judged c).lab ≡ l → (judged c).number ≡ (list_verdict s cs).number
  unfolding judged verdict_of
  named p = rw (of_labs, labs_finds, list_number_lem) (named_number (λ j. lab_number t (lab_cells c j)) l low (rw (of_labs, labs_finds) at p))

  names : ((list_verdict s cs).number ≡ 0 → ⊥) → ((k : ℕ) → k < l → (lab_result t (lab_cells c k)).number ≡ 0) → (judged c).lab ≡ l
  unfolding judged verdict_of lab_group lab_result lab_number
  names broken lower =
      rw of_labs
      (ap (λ (f : Finding). f.lab)
      (lab_to (λ j. lab_checks t (lab_cells c j)) (λ j. lab_numbered t (lab_cells c j)) 1024 l (list_verdict s cs).number broken low lower (sym list_number_lem)))

  -- the rules of the LAB hold, so they give no number
  no_number : (judged c).number ≡ 0 → lab_number t (lab_cells c l) ≡ 0
  unfolding AllHold lab_number
  no_number z = hold_number l (lab_checks t (lab_cells c l)) (lab_holds c z l low)

  legal : (before : List ℕ) → (judged c).number ≡ 0 → ((list_verdict s cs).number ≡ 0) × (part_at (routed c before) (8 * l) 8 ≡ (list_verdict s cs).bytes)
  unfolding lab_result route_of
  legal before z =
      let n = no_number z in
      let bytes : (list_verdict s cs).bytes ≡ route_of t (lab_cells c l) = ap (λ (r : LabResult). r.bytes) lab_result_lem ∙ rw n in (
        list_number_lem ∙ n,
        rw (written c before z, bytes)
            (row_part (λ j. route_of t (lab_cells c j)) (λ j. route_eight (needs (lab_cells c j)) (earliest_way t (needs (lab_cells c j)))) 1024 l low),
      )

pub list_law : ListLaw
unfolding ListLaw
list_law c l cs low held copied = record {
  as_lab_result = lab_result_lem c l cs low held copied;
  named = named c l cs low held copied;
  names = names c l cs low held copied;
  legal = legal c l cs low held copied;
}
