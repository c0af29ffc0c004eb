-- `is_idle` meets its contract: where the entry is free, it makes a difference to the needs that `any` finds. Assumes nothing.
use Rattle.std.proofs.Common.{rules}
use Rattle.std.proofs.lemmas.Iterator.{YieldsList-from_slice}
use Rattle.std.proofs.lemmas.Iterator.Search.{any_from_yields_List}
use borrow.Author.Tests.{tests, eq-eqb}
use Rattle.sheet.specs.Lists.{anyb}
use Rattle.entries.specs.passes.Entries.{serves_other}
use mathlib.Core.Path.{◌≡◌, refl}
use lib.ListN.{get_or}
use Rattle.route.proofs.is_idle.Goals as goal

pub returns : goal.returns
returns c =
    let a = c.args in
    let served : c.any.result ≡ anyb (serves_other a.table a.need a.e) a.after.now
    = any_from_yields_List (serves_other a.table a.need a.e) _ _ c.any.result c.any.ensures.ran (YieldsList-from_slice a.after.now cc) (λ x b q k. search (rules, tests)) in
    let free : get_or a.held a.e 0 ≡ 0 = search rules in
    rw (served, eq-eqb (get_or a.held a.e 0) 0 free) refl
