-- Where 1 to 51 and 70 to 75 hold, every net of an exercise has a mark: so the marks of any LAB's cells are rule 64's nets. Assumes nothing.
use Prim.Native.Nat.{ℕ, ◌<◌}
use mathlib.Core.Path.{◌≡◌}
use mathlib.Core.List.{List}
use lib.ListN.{length}
use Rattle.sheet.specs.Lists.{filterb, below}
use Rattle.distinct.specs.declared.LabMarks.{LabMarks}
use Rattle.distinct.specs.passes.Marks.{marking, Lower}
use Rattle.lab_nets.specs.NetsIn.{nets_in}
use Rattle.lab_nets.specs.Marked.{marked_as_read}
use Rattle.lab_nets.specs.passes.Uses.{mark_cells}
use Rattle.lab_nets.proofs.Cells.{marks_are_nets}
use Rattle.lab_rules.proofs.Folded.{reads_low}
use Rattle.judge.specs.Call.{Call}
use Rattle.judge.specs.Judge.{checks_to51, lab_cells}
use Rattle.judge.specs.Demands.{AllHold}
use Rattle.judge.proofs.FitCells.{lab_fit}
use Rattle.judge.proofs.Kept.{all_kept}

-- 64, request M-103
pub lab_marks : (c : Call) → AllHold (checks_to51 c) → (lab : ℕ) (l : LabMarks) → l.read < l.driven → (m : List ℕ) → Lower 1024 l.read m
    → (filterb (marked_as_read l.read (mark_cells l (marking m 0) (lab_cells c lab)).marks) (below 1024) ≡ nets_in (lab_cells c lab))
    × ((mark_cells l (marking m 0) (lab_cells c lab)).count ≡ length (nets_in (lab_cells c lab)))
lab_marks c h lab l up m low =
    let kept = all_kept c h in
    let cs = lab_cells c lab in
    (marks_are_nets l up m low cs).all (reads_low cs (lab_fit c kept.few kept.keeps lab))
