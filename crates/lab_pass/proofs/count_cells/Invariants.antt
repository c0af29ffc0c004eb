-- The loop's invariant: the counts and the marks, with the cells that are left of the list, are those of the whole list. To a cell that is no register
-- no port counts. Both `return`s stand where no cell is left.
use Rattle.exercise.specs.passes.Known.{known_at}
use mathlib.Core.Path.{◌≡◌}
use lib.ListN.{length}
use Rattle.distinct.specs.passes.Marks.{marking}
use Rattle.lab_pass.proofs.Taking.{Taken}
use Rattle.lab_pass.proofs.count_cells.Given as goal

abbrev pub invariant-loop-k : goal.invariant-loop-k
invariant-loop-k l = Taken (known_at l.exercise) l.next 512 l.start l.counting l.lab (marking l.initial.marks 0) l.counts (marking l.marks l.nets) l.at l._k × (length l.marks ≡ length l.initial.marks)
