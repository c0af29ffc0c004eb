-- "A ring of carries therefore always ends in 51, where nothing earlier is broken." Assumes nothing.
use Rattle.std.specs.Prelude.{ℕ, suc, ◌<◌, ◌≡◌, true, List}
use Rattle.exercise.specs.Exercise.{cell_count}
use Rattle.exercise.specs.declared.CombinationalCell.{CombinationalCell}
use Rattle.exercise.specs.declared.Record.TheVariants.{Combinational}
use Rattle.tables.specs.Records.{cell, cell_numbers}
use Rattle.netlist.specs.Cells.{feeds}
use Rattle.placing.specs.Places.{place_taken}
use Rattle.judge.specs.Call.{Call}
use Rattle.judge.specs.Judge.{per_cell, room_checks, settings_group, exercise_group, answer_group, cell_group, judged}
use Rattle.judge.specs.Demands.{AllHold}

-- the cout of cell j is the cin of cell i
pub record FedBy (e : List ℕ) (j i : ℕ) : Type 0 where
  pub reader : CombinationalCell
  pub is_reader : cell e i ≡ Combinational reader
  pub fed : feeds reader.cin.0 (cell e j) ≡ true

-- cells each of which feeds the next, and the last the first
pub record Ring (e : List ℕ) (ring : ℕ → ℕ) (k : ℕ) : Type 0 where
  pub there : (m : ℕ) → m < suc k → (ring m < cell_count e) × (ring (suc m) < cell_count e)
  pub fed : (m : ℕ) → m < suc k → FedBy e (ring m) (ring (suc m))
  pub closed : ring (suc k) ≡ ring 0

-- all that is checked before 51 holds
pub record HoldsTo50 (c : Call) : Type 0 where
  pub room : AllHold (room_checks c.room c.slots)
  pub settings : AllHold (settings_group c.settings)
  pub exercise : AllHold (exercise_group c.exercise)
  pub answer : AllHold (answer_group c.exercise c.answer)
  pub cells : AllHold (cell_group c.exercise)
  pub places : AllHold (per_cell 50 (place_taken c.exercise c.answer) (cell_numbers c.exercise))

-- THE RING ENDS IN 51, for every call and every ring of its exercise
unfoldable pub RingLaw : Type 0
RingLaw = (c : Call) (ring : ℕ → ℕ) (k : ℕ) → Ring c.exercise ring k → HoldsTo50 c → (judged c).number ≡ 51
