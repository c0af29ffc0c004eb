-- The lists that hold the cells of each LAB: for each LAB its first cell, for each cell the next one of its LAB. Assumes nothing.
use Rattle.std.specs.Prelude.{ℕ, zero, suc, cond, List, [], ◌∷◌, length, get_or, set, ltb}
use Rattle.sheet.specs.Checks.{NONE}
use Rattle.placing.specs.Places.{lab_at}

-- the two tables: the first cell of each LAB, and the next cell of the same LAB after each cell
pub record Links : Type 0 where
  pub first : List ℕ
  pub next : List ℕ

-- cell i put in front of its LAB's list
unfoldable pub link : List ℕ → Links → ℕ → Links
link a t i = record { first = set t.first (lab_at a i) i; next = set t.next i (get_or t.first (lab_at a i) NONE) }

-- the cells below n put in front of their LABs' lists, the highest first
unfoldable pub link_below : List ℕ → Links → ℕ → Links
link_below a t zero = t
link_below a t (suc n) = link_below a (link a t n) n

-- the cells of a list from `start` on, k of them at the most
unfoldable pub walk : List ℕ → ℕ → ℕ → List ℕ
walk next start zero = []
walk next start (suc k) = cond (ltb start (length next)) (start ∷ walk next (get_or next start NONE) k) []
