-- What the judge's stages answer from the tables that they are given. Assumes nothing.
use Rattle.std.specs.Prelude.{ℕ, cond, not, List, Option, Some, None, eqb, ltb}
use Rattle.sheet.specs.declared.CellNumber.{CellNumber}
use Rattle.sheet.specs.Lists.{first_from}
use Rattle.exercise.specs.declared.Record.{Record}
use Rattle.placing.specs.Places.{place_taken}
use Rattle.placing.specs.passes.Detached.{detached_at}
use Rattle.sheet.specs.Checks.{NONE}
use Rattle.verdict.specs.declared.Finding.{Finding}
use Rattle.verdict.specs.Verdicts.{finding, legal}

-- the first place below n that g gives a number, with that number
unfoldable pub numbered_as : (ℕ → ℕ → Finding) → (ℕ → ℕ) → ℕ → Finding
numbered_as found g n =
    cond (ltb (first_from (λ i. not (eqb (g i) 0)) 0 n) n)
    (found (g (first_from (λ i. not (eqb (g i) 0)) 0 n)) (first_from (λ i. not (eqb (g i) 0)) 0 n))
    legal

-- of the cells below n, and of the LABs
abbrev pub numbered : (ℕ → ℕ) → ℕ → Finding
numbered = numbered_as (λ number i. finding number i NONE)

abbrev pub numbered_lab : (ℕ → ℕ) → Finding
numbered_lab g = numbered_as (λ number l. finding number NONE l) g 1024

-- what a run over the cells finds that has found one, or none
abbrev pub cell_finding : ℕ → Option CellNumber → Finding
cell_finding number None = legal
cell_finding number (Some i) = finding number i.0 NONE

-- what a run over n cells finds that stops at i
abbrev pub at_cell : ℕ → ℕ → ℕ → Finding
at_cell number i n = cond (ltb i n) (finding number i NONE) legal

-- 50, then 51 from the table of drivers
unfoldable pub placed_by : List ℕ → (ℕ → Record) → ℕ → List ℕ → List ℕ → Finding
placed_by drivers cell n e a =
    cond (ltb (first_from (place_taken e a) 0 n) n) (finding 50 (first_from (place_taken e a) 0 n) NONE)
    (at_cell 51 (first_from (detached_at drivers a cell) 0 n) n)
