-- The pieces of the line, one after the other.
use Rattle.listing.proofs.Lines.{lab_pieces}
use Rattle.listing.proofs.Page.lab_line.Goals as goal

pub returns : goal.returns
returns c =
    lab_pieces c.args.lab c.args.bytes (rw c.from.ensures at c.field.ensures) (rw c.entry.ensures at c.field-2.ensures)
    (rw c.entry-2.ensures at c.field-3.ensures) (rw c.entry-3.ensures at c.field-4.ensures) (rw c.entry-4.ensures at c.field-5.ensures)
    (rw c.entry-5.ensures at c.field-6.ensures) (rw c.entry-6.ensures at c.field-7.ensures) (rw c.entry-7.ensures at c.field-8.ensures)
    (rw c.entry-8.ensures at c.field-9.ensures) c.byte.ensures
