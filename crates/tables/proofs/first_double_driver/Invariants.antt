-- The loop keeps the marks with which the rest of the pass finds what the whole finds.
use Rattle.tables.proofs.Steps.{Passed}
use Rattle.exercise.specs.passes.Known.{known_at}
use Rattle.tables.proofs.first_double_driver.Given as goal

abbrev pub invariant-loop-i : goal.invariant-loop-i
invariant-loop-i l = Passed (known_at l.exercise) l.cells l.marks l.i
