-- The loop's invariant: the entries of the keys so far are tallied, and their rows stored.
use mathlib.Core.Path.{refl, ap, ◌∙◌}
use Rattle.credits.proofs.Walks.{walk_ends, fill_goes, fill_ends}
use Rattle.credits.specs.passes.Rows.{rows_begun, with_entry}
use Rattle.credits.proofs.fill_rows.Goals as goal

pub loop-key-preserved : goal.loop-key-preserved
loop-key-preserved c =
    let u = c.with_entry-row.ensures in
    fill_goes _ _ _ _ _ _ c.loop-key.invariant _ _ _ c.loop-key-test.true refl (u.after ∙ ap (with_entry c.loop-key.last) c.entry_of.ensures) u.few u.small (rw c.from.ensures at c.put.ensures)

pub returns-clause-counted : goal.returns-clause-counted
returns-clause-counted c =
    c.rows_begun.ensures ∙ ap rows_begun (walk_ends _ _ _ _ c.loop-key.invariant.walked c.loop-key-test.false)

pub returns-clause-stored : goal.returns-clause-stored
returns-clause-stored c =
    fill_ends _ _ _ _ _ _ c.loop-key.invariant c.loop-key-test.false
