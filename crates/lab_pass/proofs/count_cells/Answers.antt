-- The loop's invariant: the counts and the marks, with the cells that are left of the list, are those of the whole list. To a cell that is no register
-- no port counts. Both `return`s stand where no cell is left.
use mathlib.Core.Path.{◌≡◌, ◌∙◌}
use native.Mathlib.Omega.{arith}
use Rattle.lab_rules.specs.passes.Counts.{counts_with}
use Rattle.lab_rules.proofs.Steps.{no_register}
use Rattle.lab_pass.proofs.Linked.{after_cell}
use Rattle.lab_pass.proofs.Taking.{take_goes}
use Rattle.lab_pass.proofs.count_cells.Goals as goal
use Rattle.lab_pass.proofs.count_cells.Goals.{in-Register, in_default-cell}

pub loop-k-preserved : goal.loop-k-preserved
loop-k-preserved c =
    let l = c.loop-k in
    let a = after_cell _ _ _ c.in-Some.ensures in
    let counts : c.match-cell.counts ≡ counts_with l.counts c.known_record_at-cell.result = elim c.match-cell.branch [
      | in-Register w ↦ w.counts-is ∙ w.with-counts.ensures
      | in_default-cell w ↦ w.counts-is ∙ no_register _ _ w.in_default-cell.not-Register
    ] in (
      take_goes _ _ 512 _ _ _ _ _ _ _ l._k l.invariant.0 _ _ _ _ (omega (arith, c.loop-k-test.true)) a.0
          c.known_record_at-cell.ensures counts c.mark_if-nets.ensures a.1,
      c.mark_if-nets.auto.marks ∙ l.invariant.1,
    )
