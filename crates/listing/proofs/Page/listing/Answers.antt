-- The verdict line, and after it the lines of the marked LABs where the number is 0.
use Rattle.listing.proofs.Ends.{refused, legal}
use Rattle.listing.proofs.Page.listing.Goals as goal

pub returns-then-verdict-eq0 : goal.returns-then-verdict-eq0
returns-then-verdict-eq0 c =
    let args = c.args in
    legal args.settings.now args.exercise.now args.answer.now c.judge_sheets-verdict.result c.judge_sheets-verdict.ensures.verdict
    c.verdict_line.ensures _ _ c.if-verdict-eq0.true c.judge_sheets-verdict.ensures.routes (rw c.cell_count.ensures at c.marks_of-marks.ensures)
    c.lab_lines.ensures

pub returns-else-verdict-eq0 : goal.returns-else-verdict-eq0
returns-else-verdict-eq0 c =
    let args = c.args in
    refused args.settings.now args.exercise.now args.answer.now c.judge_sheets-verdict.result c.judge_sheets-verdict.ensures.verdict
    c.verdict_line.ensures c.if-verdict-eq0.false
