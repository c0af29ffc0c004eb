-- A scan of the cells, each tested by its number.
use Rattle.sheet.proofs.Scan.{Scanned}
use Rattle.netlist.specs.passes.Numbers.{broken_at}
use Rattle.exercise.specs.passes.Known.{known_at}
use Rattle.netlist.proofs.first_broken_cell.Given as goal

abbrev pub invariant-loop-i : goal.invariant-loop-i
invariant-loop-i l = Scanned (broken_at l.tables.reads.now l.tables.readers.now l.tables.drivers.now (known_at l.exercise)) l.cells l.i
