-- The loop's invariant: the walk stands where the length of answer i does.
use Rattle.class.proofs.Marking.{walk_starts, walk_goes, lengths_told}
use Rattle.class.proofs.wrong_lengths.Goals as goal

pub loop-i-init : goal.loop-i-init
loop-i-init c =
    walk_starts _ _

pub loop-i-preserved : goal.loop-i-preserved
loop-i-preserved c =
    let n = c.end_of-at.ensures in
    walk_goes _ _ _ _ c.loop-i.invariant _ c.loop-i-test.true n.end n.most

pub returns : goal.returns
returns c =
    lengths_told _ _ _ _ c.loop-i.invariant c.loop-i-test.false c.answer_count-i-end.ensures
