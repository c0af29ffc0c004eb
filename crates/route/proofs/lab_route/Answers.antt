-- `lab_route` meets its contract: the bytes are those of the way that `first_way` answers. Assumes nothing.
use Rattle.entries.specs.Table.{need_list}
use Rattle.route.proofs.Bytes.{lab_way}
use Rattle.route.proofs.lab_route.Goals as goal

pub returns-clause-found : goal.returns-clause-found
returns-clause-found c =
    let a = c.args in
    let search = c.first_way-found in
    rw (c.eight_bytes-bytes.ensures, c.as_slice.ensures) (lab_way a.table (need_list a.needs) search.result.found _ search.ensures.found c.in-Some.is)
