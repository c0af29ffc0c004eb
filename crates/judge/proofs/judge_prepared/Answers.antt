-- What is found up to 51, otherwise what the LABs have; the rows are not handed out.
use mathlib.Core.Path.{sym, ap, ◌∙◌}
use Rattle.judge.specs.passes.Preparing.{finding_in}
use Rattle.judge.proofs.Outcomes.{number_in, numbered_err}
use Rattle.judge.proofs.Preparing.{found_stays, found_goes}
use Rattle.judge.proofs.judge_prepared.Goals as goal

pub returns-in-Err : goal.returns-in-Err
returns-in-Err c =
    found_stays _ _ _ _ _ _ (sym (ap finding_in c.in-Err.is) ∙ c.check_to_51.ensures.found)
    (numbered_err c.check_to_51.result _ c.check_to_51.ensures.refused c.in-Err.is)

pub returns : goal.returns
returns c =
    found_goes _ _ _ _ _ _ c.check_to_51.ensures.found (ap number_in (ap finding_in c.in_default.is)) (c.of.ensures ∙ c.check_labs.ensures.found)
