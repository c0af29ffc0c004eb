-- The five pieces of the line, one after the other.
use Rattle.listing.proofs.Lines.{verdict_pieces}
use Rattle.listing.proofs.Page.verdict_line.Goals as goal

pub returns : goal.returns
returns c =
    verdict_pieces c.args.v (rw c.from.ensures at c.field.ensures) (rw c.place.ensures at c.field-2.ensures) (rw c.place-2.ensures at c.field-3.ensures)
    c.field-4.ensures c.byte.ensures
