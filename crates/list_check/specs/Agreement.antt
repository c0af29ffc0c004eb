-- The list check beside the judge: for a LAB of sheets that pass 1 to 51, the list of that LAB's records gets the judge's number among 60 to 65
-- and its route bytes. `c` is the judge's call, `e` its exercise, `l` a LAB number, `cs` the list. Assumes nothing.
use Rattle.std.specs.Prelude.{ℕ, ◌*◌, ◌≤◌, ◌<◌, ◌≡◌, length}
use mathlib.Core.List.{List, [], ◌∷◌, Permᴰ}
use Rattle.sheet.specs.Bytes.{part_at}
use Rattle.exercise.specs.Exercise.{cell_count, record_part}
use Rattle.exercise.specs.Record.{Cell, record_bytes}
use Rattle.lab_rules.specs.Rules.{lab_result}
use Rattle.placing.specs.Members.{members}
use Rattle.judge.specs.Call.{Call, in_force}
use Rattle.judge.specs.Judge.{lab_cells, judged, routed, checks_to51}
use Rattle.judge.specs.Demands.{AllHold}
use Rattle.list_check.specs.ListCheck.{list_verdict}

-- the records have the bytes of the cells with these numbers, in order
unfoldable pub Copies : List ℕ → List ℕ → List Cell → Type 0
Copies e [] [] = Unit {0}
Copies e [] (x ∷ xs) = ⊥
Copies e (i ∷ is) [] = ⊥
Copies e (i ∷ is) (x ∷ xs) = (record_bytes x ≡ record_part e i) × Copies e is xs

-- "a lent list of that LAB's cell records": the records of the cells that the answer puts into LAB l, in any order
unfoldable pub ListOf : Call → ℕ → List Cell → Type 0
ListOf c l cs = (ds : List Cell) × Permᴰ cs ds × Copies c.exercise (members c.answer (cell_count c.exercise) l) ds

-- what the list check and the judge have in common
pub record Agrees (c : Call) (l : ℕ) (cs : List Cell) : Type 0 where
  -- the list gets the number and the eight bytes of the LAB: it is never 18
  pub as_lab_result : list_verdict c.settings cs ≡ lab_result (in_force c) (lab_cells c l)
  -- where the judge names the LAB, it gives the list's number
  pub named : (judged c).lab ≡ l → (judged c).number ≡ (list_verdict c.settings cs).number
  -- where the list's number is not 0 and every lower LAB has 0, the judge names the LAB
  pub names : ((list_verdict c.settings cs).number ≡ 0 → ⊥) → ((k : ℕ) → k < l → (lab_result (in_force c) (lab_cells c k)).number ≡ 0) → (judged c).lab ≡ l
  -- where the judge says legal, the list gets 0 and the LAB's eight bytes of the route buffer, whatever buffer was lent
  pub legal : (before : List ℕ) → (judged c).number ≡ 0
      → ((list_verdict c.settings cs).number ≡ 0) × (part_at (routed c before) (8 * l) 8 ≡ (list_verdict c.settings cs).bytes)

-- THE LAW, for every call, LAB and list
unfoldable pub ListLaw : Type 0
ListLaw = (c : Call) (l : ℕ) (cs : List Cell) → l < 1024 → AllHold (checks_to51 c) → ListOf c l cs → Agrees c l cs

-- A LAB HAS AT MOST 32 CELLS where 1 to 51 hold, so no LAB's list is 18 for its length
unfoldable pub AtMost32 : Type 0
AtMost32 = (c : Call) (l : ℕ) → AllHold (checks_to51 c) → length (lab_cells c l) ≤ 32
