-- The loop's invariant: the walk stands where the length of answer i does, and the rows of the answers before it are stored.
use Rattle.class.specs.Class.{answer_of}
use Rattle.class.specs.passes.Rows.{row_from}
use Rattle.class.proofs.Marking.{Stored}
use Rattle.class.proofs.put_rows.Given as goal

abbrev pub invariant-loop-i : goal.invariant-loop-i
invariant-loop-i l =
    Stored (λ j. row_from l.bench.table l.bench.prepared l.bench.drivers.now l.bench.exercise.now (answer_of l.class j)) l.class l.initial.rows l.count l.i l.at l.rows
