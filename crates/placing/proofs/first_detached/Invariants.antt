-- A scan over the cells, in which the test is put to the cell's record.
use Rattle.sheet.proofs.Scan.{Scanned}
use Rattle.placing.specs.passes.Detached.{detached_at}
use Rattle.exercise.specs.passes.Known.{known_at}
use Rattle.placing.proofs.first_detached.Given as goal

abbrev pub invariant-loop-i : goal.invariant-loop-i
invariant-loop-i l = Scanned (detached_at l.drivers l.answer (known_at l.exercise)) l.cells l.i
