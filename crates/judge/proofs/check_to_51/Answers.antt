-- What was found before the answer, what the answer has, what was found in the cells, what the places have: the first that is something.
use mathlib.Core.Path.{sym, ap, ◌∙◌}
use Rattle.verdict.specs.Verdicts.{found}
use Rattle.judge.proofs.Outcomes.{err_finds, ok_finds, finding_given, finding_handed, refused_found, passed_found}
use Rattle.judge.proofs.Preparing.{found_early, found_answer, found_placed, placed_stays, placed_goes}
use Rattle.judge.proofs.check_to_51.Goals as goal

pub returns-in_err-refuse_found-clause-found : goal.returns-in_err-refuse_found-clause-found
returns-in_err-refuse_found-clause-found c =
    let r = refused_found c.args.prepared.early c.refuse_found.result c.refuse_found.ensures.found _ c.refuse_found.ensures.refused c.in_err-refuse_found.was in
    finding_handed _ _ (finding_given _ _ c.from_residual.ensures.1) ∙ r.0 ∙ found_early c.args.prepared _ _ _ r.1

pub returns-in_err-check_answer-clause-found : goal.returns-in_err-check_answer-clause-found
returns-in_err-check_answer-clause-found c =
    finding_handed _ _ (finding_given _ _ c.from_residual-in_err-check_answer.ensures.1) ∙ sym (ap found c.in_err-check_answer.was)
    ∙ found_answer c.args.prepared _ _ _ _ (passed_found c.args.prepared.early c.refuse_found.result c.refuse_found.ensures.found _ c.in_ok-refuse_found.was)
    c.check_answer.ensures (err_finds c.check_answer.result _ c.in_err-check_answer.was)

pub returns-in_err-refuse_found-2-clause-found : goal.returns-in_err-refuse_found-2-clause-found
returns-in_err-refuse_found-2-clause-found c =
    let r = refused_found c.args.prepared.fixed c.refuse_found-2.result c.refuse_found-2.ensures.found _ c.refuse_found-2.ensures.refused c.in_err-refuse_found-2.was in
    finding_handed _ _ (finding_given _ _ c.from_residual-in_err-refuse_found-2.ensures.1) ∙ r.0
    ∙ found_placed c.args.prepared _ _ _ _ (passed_found c.args.prepared.early c.refuse_found.result c.refuse_found.ensures.found _ c.in_ok-refuse_found.was)
    c.check_answer.ensures (ok_finds c.check_answer.result _ c.in_ok-check_answer.was) (placed_stays _ _ _ _ r.1)

pub returns-in_err-check_places-clause-found : goal.returns-in_err-check_places-clause-found
returns-in_err-check_places-clause-found c =
    finding_handed _ _ (finding_given _ _ c.from_residual-in_err-check_places.ensures.1) ∙ sym (ap found c.in_err-check_places.was)
    ∙ found_placed c.args.prepared _ _ _ _ (passed_found c.args.prepared.early c.refuse_found.result c.refuse_found.ensures.found _ c.in_ok-refuse_found.was)
    c.check_answer.ensures (ok_finds c.check_answer.result _ c.in_ok-check_answer.was)
    (placed_goes _ _ _ _ _ (passed_found c.args.prepared.fixed c.refuse_found-2.result c.refuse_found-2.ensures.found _ c.in_ok-refuse_found-2.was) c.cell_count-cells.ensures c.check_places.ensures)

pub returns-clause-found : goal.returns-clause-found
returns-clause-found c =
    sym (ap found c.in_ok-check_places.was)
    ∙ found_placed c.args.prepared _ _ _ _ (passed_found c.args.prepared.early c.refuse_found.result c.refuse_found.ensures.found _ c.in_ok-refuse_found.was)
    c.check_answer.ensures (ok_finds c.check_answer.result _ c.in_ok-check_answer.was)
    (placed_goes _ _ _ _ _ (passed_found c.args.prepared.fixed c.refuse_found-2.result c.refuse_found-2.ensures.found _ c.in_ok-refuse_found-2.was) c.cell_count-cells.ensures c.check_places.ensures)
