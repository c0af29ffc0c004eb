-- Of a short list the result is the same with no net counted, and of a longer one the nets are counted, from marks that are lower than the LAB's.
use Rattle.lab_pass.proofs.Short.{short_tells, long_tells}
use Rattle.lab_pass.proofs.counted_from.Goals as goal

pub returns-then-is_short-clause-told : goal.returns-then-is_short-clause-told
returns-then-is_short-clause-told c =
    (short_tells _ _ _ c.count_cells.ensures.counted c.args.lab c.requires.rising c.args.marks.now c.requires.lower _ _ _ c.is_short.ensures c.if-is_short.true
    c.count_cells.ensures.marked).0

pub returns-then-is_short-clause-kept : goal.returns-then-is_short-clause-kept
returns-then-is_short-clause-kept c =
    (short_tells _ _ _ c.count_cells.ensures.counted c.args.lab c.requires.rising c.args.marks.now c.requires.lower _ _ _ c.is_short.ensures c.if-is_short.true
    c.count_cells.ensures.marked).1

pub returns-clause-told : goal.returns-clause-told
returns-clause-told c =
    (long_tells _ _ _ c.count_cells-counted.ensures.counted c.args.lab c.requires.rising c.args.marks.now c.requires.lower _ _ c.count_cells-counted.ensures.marked _ c.too_many-nets.ensures).0

pub returns-clause-kept : goal.returns-clause-kept
returns-clause-kept c =
    (long_tells _ _ _ c.count_cells-counted.ensures.counted c.args.lab c.requires.rising c.args.marks.now c.requires.lower _ _ c.count_cells-counted.ensures.marked _ c.too_many-nets.ensures).1
