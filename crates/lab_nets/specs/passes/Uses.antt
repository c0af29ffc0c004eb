-- What the cells of a LAB do to nets, and the marks that they leave. Assumes nothing.
use Rattle.std.specs.Prelude.{ℕ, List, ◌++◌, map, ltb}
use Rattle.sheet.specs.Lists.{concat_map, filterb}
use Rattle.exercise.specs.Record.{outputs}
use Rattle.exercise.specs.declared.Record.{Record}
use Rattle.distinct.specs.declared.LabMarks.{LabMarks}
use Rattle.distinct.specs.passes.Marks.{Use, reads, drives, Marking, mark_all}
use Rattle.lab_nets.specs.NetsIn.{inputs, nets_at, nets_in}

-- what a cell does to nets: its reads without cin, then its drives
unfoldable pub uses_of : Record → List Use
uses_of c = map reads (nets_at (inputs c)) ++ map drives (nets_at (outputs c))

-- the marks and the count after a list of cells
unfoldable pub mark_cells : LabMarks → Marking → List Record → Marking
mark_cells l m cs = mark_all l m (concat_map uses_of cs)

-- the nets that enter, of those that have a mark
unfoldable pub nets_within : List Record → List ℕ
nets_within cs = filterb (λ n. ltb n 1024) (nets_in cs)
