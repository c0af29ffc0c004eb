-- `first_way` meets its contract: it is `place` from the first need on with no entry held. Assumes nothing.
use mathlib.Core.Path.{◌∙◌}
use native.Mathlib.Omega.{arith}
use lib.ListN.{length-take}
use Rattle.entries.specs.Table.{need_list}
use Rattle.route.proofs.Whole.{whole, whole_tries}
use Rattle.route.proofs.first_way.Goals as goal

pub returns-clause-found : goal.returns-clause-found
returns-clause-found c =
    let a = c.args in
    rw c.as_slice.ensures at c.place.ensures.found ∙ whole a.table (need_list a.needs) c.well_formed.0.1.0.1 (omega (arith, length-take a.needs.count a.needs.list))

pub returns-clause-counted : goal.returns-clause-counted
returns-clause-counted c =
    let a = c.args in
    rw c.as_slice.ensures at c.place.ensures.counted ∙ whole_tries a.table (need_list a.needs) c.well_formed.0.1.0.1
