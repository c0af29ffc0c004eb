-- The loop's invariant: the keys of the entries before i are filled in.
use mathlib.Core.Path.{refl}
use Rattle.credits.proofs.Walks.{key_goes, key_ends}
use Rattle.credits.proofs.fill_keys.Goals as goal

pub loop-i-preserved : goal.loop-i-preserved
loop-i-preserved c =
    key_goes _ _ _ _ c.loop-i.invariant _ _ refl c.key_at.ensures c.loop-i-test.true

pub returns : goal.returns
returns c =
    key_ends _ _ _ _ c.loop-i.invariant c.loop-i-test.false
