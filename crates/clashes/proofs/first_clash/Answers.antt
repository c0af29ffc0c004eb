-- The outer loop has met no clash before cell i, the inner one none of cell i with the cells before j.
use mathlib.Core.Path.{◌∙◌}
use Rattle.clashes.proofs.Pairs.{clash_found, none_found}
use Rattle.clashes.proofs.first_clash.Goals as goal
use Rattle.clashes.proofs.first_clash.Goals.{else-cells-test, then-cells-test+then-loop-j-test+then-clash}

pub returns : goal.returns
returns g c =
    elim c.cells-test.branch [
      | else-cells-test w ↦ none_found _ _ _ c.cells.i c.cells.invariant.1 w.cells-test.false _ (w.found-is ∙ c.cells.invariant.0)
      | then-cells-test+then-loop-j-test+then-clash w ↦
          clash_found _ _ _ c.cells.i c.cells.invariant.1 c.cells.auto.i w.cells-test.true w.loop-j.j w.loop-j-test.true _ w.clash.ensures w.if-clash.true _ w.found-is
    ]
