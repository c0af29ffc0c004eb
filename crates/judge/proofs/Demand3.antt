-- Demand 3, both halves together. Assumes nothing.
use Rattle.judge.specs.Demands.{Demand3}
use Rattle.judge.proofs.Refusal65.{refusal_65}
use Rattle.judge.proofs.RouteHeld.{legal_route, no_need_255}

pub demand3 : Demand3
demand3 = record { refusal_65 = refusal_65; legal_route = legal_route; no_need_255 = no_need_255 }
