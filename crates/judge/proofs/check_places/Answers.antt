-- A run that comes to its end leaves the next one to find something.
use Rattle.judge.proofs.Outcomes.{err_given}
use Rattle.judge.proofs.Steps.{place_shared, place_detached}
use Rattle.judge.proofs.check_places.Goals as goal

pub returns-in_err-refuse : goal.returns-in_err-refuse
returns-in_err-refuse c =
    place_shared _ _ _ _ _ _ c.first_shared.ensures c.refuse.result c.refuse.ensures _ c.in_err-refuse.was (err_given _ _ c.from_residual.ensures.1)

pub returns : goal.returns
returns c =
    place_detached _ _ _ _ _ _ c.first_shared.ensures c.refuse.result c.refuse.ensures _ _ c.in_ok-refuse.was c.first_detached.ensures c.refuse-2.ensures
