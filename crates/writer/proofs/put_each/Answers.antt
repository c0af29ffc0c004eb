-- The loop's invariant: the first i parts are stored.
use Rattle.writer.proofs.Putting.{store_goes}
use Rattle.writer.proofs.put_each.Goals as goal

pub loop-i-preserved : goal.loop-i-preserved
loop-i-preserved g c =
    store_goes g.P.Part.bytes c.args.parts.now c.args.to.now c.args.at g.P.Part.SIZE g.met.P.Part.sized c.index-parts-i.result c.loop-i.to _ c.loop-i.i c.SIZE.result
    c.loop-i.invariant c.loop-i-test.true c.index-parts-i.is c.SIZE.ensures c.put.ensures
