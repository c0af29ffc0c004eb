-- "a part of whichever of the two lent sheets is at fault": the culprit lies inside the sheet that it names, whatever the sheets hold.
-- Assumes nothing.
use Rattle.std.specs.Prelude.{ℕ, ◌+◌, ◌≤◌, cond, List, length}
use Rattle.verdict.specs.declared.Part.{Part}
use Rattle.judge.specs.Call.{Call}
use Rattle.judge.specs.Judge.{judged}

-- a part ends where its sheet does, or before
unfoldable pub Inside : List ℕ → List ℕ → Part → Type 0
Inside e a p = p.start + p.size ≤ length (cond p.of_answer a e)

unfoldable pub CulpritLaw : Type 0
CulpritLaw = (c : Call) → Inside c.exercise c.answer (judged c).culprit
