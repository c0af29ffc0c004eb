-- A scan of the cells, each tested by what its record says.
use Rattle.sheet.proofs.Scan.{Scanned}
use Rattle.tables.specs.passes.Tables.{malformed_at}
use Rattle.tables.proofs.first_malformed.Given as goal

abbrev pub invariant-loop-i : goal.invariant-loop-i
invariant-loop-i l = Scanned (malformed_at l.nets l.exercise) l.cells l.i
