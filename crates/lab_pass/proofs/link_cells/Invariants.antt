-- The loop's invariant: linking the cells below `i` to the tables as they are gives the tables of all cells.
use Rattle.lab_pass.proofs.Linking.{Linking}
use Rattle.lab_pass.proofs.link_cells.Given as goal

abbrev pub invariant-loop-i : goal.invariant-loop-i
invariant-loop-i l = Linking l.answer l.cells l.initial.first l.initial.next l.first l.next l.i
