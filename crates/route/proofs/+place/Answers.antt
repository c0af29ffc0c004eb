-- `place` meets its contract: the laws of route/proofs/Placing.antt, of which `search` does not find this one. Assumes nothing.
use Rattle.route.proofs.Placing.{stops_tries}
use Rattle.route.proofs.+place.Goals as goal

pub returns-in-Some-found-clause-counted : goal.returns-in-Some-found-clause-counted
returns-in-Some-found-clause-counted t c =
    let a = c.args in
    let i = c.loop-e.invariant in
    rw i.0 (stops_tries a.table a.held _ _ a.at c.loop-e.tries c.loop-e.noted c.loop-e.e i.3 c.loop-e-test.true c.may_have.result c.may_have.ensures c.if-may_have.true
    c.holder-mine.result c.holder-mine.ensures c.place-search.result.found c.place-search.result.tries c.place-search.ensures.found c.place-search.ensures.counted
    c.in-Some-found.way c.in-Some-found.is)
