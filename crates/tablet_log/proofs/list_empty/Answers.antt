-- The loop's invariant: of the entries below i, those that cover nothing are listed, and n is their number.
use Rattle.tablet_log.proofs.Listing.{list_starts, list_more, list_same}
use Rattle.tablet_log.proofs.list_empty.Goals as goal
use Rattle.tablet_log.proofs.list_empty.Goals.{then-covers_none, else-covers_none}
use mathlib.Core.Path.{sym, ap, ◌∙◌}
use Rattle.tablet_log.specs.Minutes.{covers_none}

pub loop-i-init : goal.loop-i-init
loop-i-init c =
    list_starts _ _ _

pub loop-i-preserved : goal.loop-i-preserved
loop-i-preserved c =
    let l = c.loop-i in
    let told = sym (c.covers_none.ensures ∙ ap covers_none c.entry_at.ensures) in
    elim c.if-covers_none.branch [
      | then-covers_none w ↦ rw (w.numbers-is, w.n-is, w.put.ensures, w.from.ensures) (list_more _ _ _ _ _ _ l.invariant c.loop-i-test.true (told ∙ w.if-covers_none.true))
      | else-covers_none w ↦ rw (w.numbers-is, w.n-is) (list_same _ _ _ _ _ _ l.invariant c.loop-i-test.true (told ∙ w.if-covers_none.false))
    ]
