-- 1 where the route buffer has another length, 3 where the list of tries has.
use lib.ListN.{length}
use Rattle.judge.specs.Call.{call}
use Rattle.judge.proofs.Preparing.{room_refused, slots_refused}
use Rattle.judge.proofs.check_call.Goals as goal

pub returns-then-route-ne-ROUTE_SIZE-clause-found : goal.returns-then-route-ne-ROUTE_SIZE-clause-found
returns-then-route-ne-ROUTE_SIZE-clause-found c =
    let s = c.args in
    room_refused (call s.settings.now s.exercise.now s.answer.now (length s.route.now) (length s.tries.now)) c.if-route-ne-ROUTE_SIZE.true

pub returns-then-tries-ne-TRIES_SIZE-clause-found : goal.returns-then-tries-ne-TRIES_SIZE-clause-found
returns-then-tries-ne-TRIES_SIZE-clause-found c =
    let s = c.args in
    slots_refused (call s.settings.now s.exercise.now s.answer.now (length s.route.now) (length s.tries.now)) c.if-route-ne-ROUTE_SIZE.false c.if-tries-ne-TRIES_SIZE.true
