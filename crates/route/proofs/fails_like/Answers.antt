-- `fails_like` meets its contract: two entries that make a difference serve the same where `any` finds no need for which they differ. Assumes nothing.
use Rattle.std.proofs.Common.{rules}
use Rattle.std.proofs.lemmas.Iterator.{YieldsList-from_slice}
use Rattle.std.proofs.lemmas.Iterator.Search.{any_from_yields_List}
use borrow.Author.Tests.{tests}
use Rattle.sheet.specs.Lists.{anyb}
use Rattle.entries.specs.passes.Entries.{differ_for}
use mathlib.Core.Path.{◌≡◌, refl}
use Rattle.route.proofs.fails_like.Goals as goal

pub returns : goal.returns
returns c =
    let a = c.args in
    let differ : c.any.result ≡ anyb (differ_for a.table a.f a.e) a.after.now
    = any_from_yields_List (differ_for a.table a.f a.e) _ _ c.any.result c.any.ensures.ran (YieldsList-from_slice a.after.now cc) (λ x b q k. search (rules, tests)) in
    rw (c.if-e_idle.false, c.if-f_idle.false, differ) refl
