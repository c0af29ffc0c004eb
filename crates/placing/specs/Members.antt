-- The cells of each LAB: "an occupied LAB is one where the answer sheet puts at least one cell". `n` is the number of cells, `l` a LAB number.
-- Assumes nothing.
use Rattle.std.specs.Prelude.{ℕ, List, eqb}
use Rattle.sheet.specs.Lists.{filterb, below}
use Rattle.placing.specs.Places.{lab_at}

-- the numbers of the cells that the answer puts into LAB l, rising
unfoldable pub members : List ℕ → ℕ → ℕ → List ℕ
members a n l = filterb (λ i. eqb (lab_at a i) l) (below n)
