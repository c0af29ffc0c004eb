-- One byte more.
use Rattle.listing.proofs.Writing.{nothing, one_more}
use Rattle.listing.proofs.Page.text.Goals as goal

pub loop-byte-init : goal.loop-byte-init
loop-byte-init c = nothing _ 0

pub loop-byte-preserved : goal.loop-byte-preserved
loop-byte-preserved c = one_more _ _ c.loop-byte-test.true c.loop-byte.invariant c.byte.ensures
