-- A scan over the cells, in which the test is whether a place was read.
use Rattle.sheet.proofs.Scan.{Scanned}
use Rattle.placing.specs.Places.{out_of_range_at}
use Rattle.placing.proofs.first_out_of_range.Given as goal

abbrev pub invariant-loop-i : goal.invariant-loop-i
invariant-loop-i l = Scanned (out_of_range_at l.answer) l.cells l.i
