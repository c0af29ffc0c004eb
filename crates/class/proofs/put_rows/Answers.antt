-- The loop's invariant: the walk stands where the length of answer i does, and the rows of the answers before it are stored.
use Rattle.class.proofs.Marking.{store_starts, store_goes}
use Rattle.class.proofs.put_rows.Goals as goal

pub loop-i-init : goal.loop-i-init
loop-i-init c =
    store_starts _ _ _ _ _ _ _

pub loop-i-preserved : goal.loop-i-preserved
loop-i-preserved c =
    let n = c.end_of-at.ensures in
    store_goes _ _ _ _ _ _ _ _ _ _ c.loop-i.invariant _ _ _ _ c.loop-i-test.true c.answer_at-answer.ensures c.row_of.ensures (rw c.from.ensures at c.put.ensures) n.end n.most
