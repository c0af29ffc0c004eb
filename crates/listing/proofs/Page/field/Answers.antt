-- The name, then the number or a dash.
use native.Mathlib.Omega.{arith}
use Rattle.listing.proofs.Writing.{◌then◌, within}
use Rattle.listing.proofs.Page.field.Goals as goal

pub returns-in-Some : goal.returns-in-Some
returns-in-Some c = rw c.in-Some.is (c.text.ensures then c.number.ensures)

pub returns-in-None : goal.returns-in-None
returns-in-None c = rw c.in-None.is (c.text.ensures then within 10 (omega arith) c.byte.ensures)
