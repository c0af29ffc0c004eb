-- Where the counts and the nets in are those of the LAB before, so are the result and the tries.
use Rattle.lab_pass.proofs.Same.{search_again}
use Rattle.lab_pass.proofs.solve.Goals as goal

pub returns-then-is_same : goal.returns-then-is_same
returns-then-is_same c =
    search_again c.args.table c.args.counted c.args.previous (c.is_same.ensures.same c.if-is_same.true) c.requires
