-- No cell before i has a lower one's key, and the keys of all of them are marked: a key without a mark was not met.
use Rattle.clashes.proofs.Keys.{mark_goes}
use Rattle.clashes.proofs.free_to.Goals as goal

pub loop-i-preserved : goal.loop-i-preserved
loop-i-preserved c =
    let key = rw c.from.ensures at c.from-key.ensures in
    rw key (mark_goes _ _ c.requires _ _ c.loop-i.invariant c.loop-i-test.true (rw key at c.if-marks-key.false))
