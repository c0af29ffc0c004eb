-- The row of an answer from what was prepared for its exercise. Assumes nothing.
use Rattle.std.specs.Prelude.{ℕ, List, [], ◌∷◌}
use Rattle.entries.specs.Table.{Table}
use Rattle.verdict.specs.declared.Finding.{Finding}
use Rattle.verdict.specs.Verdicts.{apprentice_of}
use Rattle.judge.specs.declared.Prepared.{Prepared}
use Rattle.judge.specs.passes.Preparing.{found_from}

-- number, cell, LAB and apprentice of what is found in the answer `a`
abbrev pub row_on : List ℕ → Finding → List ℕ
row_on a f = f.number ∷ f.cell ∷ f.lab ∷ apprentice_of a f.number ∷ []

unfoldable pub row_from : Table → Prepared → List ℕ → List ℕ → List ℕ → List ℕ
row_from t p ds e a = row_on a (found_from t p ds e a)
