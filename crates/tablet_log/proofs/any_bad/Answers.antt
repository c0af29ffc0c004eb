-- Whether the test holds at one of the entries' numbers.
use mathlib.Core.Path.{ap, ◌∙◌}
use native.Mathlib.Omega.{arith}
use Rattle.std.proofs.Common.{rules}
use Rattle.std.proofs.lemmas.Iterator.{YieldsList-from_range}
use Rattle.std.proofs.lemmas.Iterator.Search.{any_from_yields_List}
use Rattle.sheet.specs.Lists.{anyb}
use Rattle.tablet_log.specs.Log.{bad_at, entry_count}
use Rattle.tablet_log.specs.Credited.{any_bad}
use Rattle.tablet_log.proofs.Listing.{range_below}
use Rattle.tablet_log.proofs.any_bad.Goals as goal

pub returns : goal.returns
unfolding any_bad bad_at
returns c =
    let l = c.args.log.now in
    let n = entry_count l in
    any_from_yields_List (bad_at l) _ _ _ c.any.ensures.ran (YieldsList-from_range 0 n n (search rules) (omega arith)) (λ x b q k. search rules) ∙ ap (anyb (bad_at l)) (range_below n)
