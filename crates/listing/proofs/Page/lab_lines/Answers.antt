-- One LAB more: its line where it is marked, or nothing.
use Rattle.listing.proofs.Marked.{no_lines, line_more, marked, unmarked}
use Rattle.listing.proofs.Page.lab_lines.Goals.{then-marks-from, else-marks-from}
use Rattle.listing.proofs.Page.lab_lines.Goals as goal

pub loop-lab-init : goal.loop-lab-init
loop-lab-init c = no_lines _ _ _

pub loop-lab-preserved : goal.loop-lab-preserved
loop-lab-preserved c =
    let lab = c.loop-lab.lab in
    elim c.if-marks-from.branch [
      | then-marks-from w ↦ rw w.self-is (line_more _ _ lab c.loop-lab.invariant
          (marked _ _ lab (rw c.from.ensures at w.if-marks-from.true) w.row.ensures w.lab_line.ensures))
      | else-marks-from w ↦ rw w.self-is (line_more _ _ lab c.loop-lab.invariant (unmarked _ _ _ lab (rw c.from.ensures at w.if-marks-from.false)))
    ]
