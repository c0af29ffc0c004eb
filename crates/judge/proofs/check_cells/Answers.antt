-- The tables hold what the pass put there, so the outcome is that of 30 to 44.
use Rattle.judge.proofs.Preparing.{cells_found}
use Rattle.judge.proofs.check_cells.Goals as goal

pub returns-clause-found : goal.returns-clause-found
returns-clause-found c =
    (cells_found c.args.exercise.now _ _ _ _ _ _ c.requires.passed c.requires.blank c.cell_count-cells.ensures
    c.fill_tables.ensures.counted c.fill_tables.ensures.read c.fill_tables.ensures.driven c.check_cells_by.ensures).0
