-- The first cell without a key is the one at which the pass is left.
use mathlib.Core.Path.{◌∙◌}
use Rattle.clashes.proofs.Keys.{keys_stop, put_stops}
use Rattle.clashes.proofs.fill_keys.Goals as goal

pub returns-in_default-clause-found : goal.returns-in_default-clause-found
returns-in_default-clause-found c =
    keys_stop _ _ _ _ c.loop-i.invariant.0 _ c.loop-i-test.true (λ k q. c.in_default.not-Some k (c.key_of.ensures ∙ q))

pub returns-in_default-clause-filled : goal.returns-in_default-clause-filled
returns-in_default-clause-filled c =
    put_stops _ _ _ _ c.loop-i.invariant.0 _ _ c.loop-i-test.true (λ k q. c.in_default.not-Some k (c.key_of.ensures ∙ q)) c.loop-i.invariant.1
