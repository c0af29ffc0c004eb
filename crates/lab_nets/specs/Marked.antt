-- Request M-103: "the marks left at the end are exactly rule 64's nets, and their number its count, for any cells of a LAB". `cs` are the cells.
-- Assumes nothing.
use Rattle.std.specs.Prelude.{ℕ, ◌<◌, ◌≡◌, Bool, true, not, ◌&&◌, List, length, get_or, eqb}
use Rattle.sheet.specs.Lists.{filterb, anyb, elemb, below}
use Rattle.exercise.specs.Record.{outputs}
use Rattle.exercise.specs.declared.Record.{Record}
use Rattle.lab_nets.specs.NetsIn.{inputs, nets_at, nets_in}

-- one of the cells reads net n, at a port other than cin, polarity aside
abbrev pub read_in : List Record → ℕ → Bool
read_in cs n = anyb (λ c. elemb n (nets_at (inputs c))) cs

-- one of the cells drives net n
abbrev pub driven_in : List Record → ℕ → Bool
driven_in cs n = anyb (λ c. elemb n (nets_at (outputs c))) cs

-- there is one mark for each of the 1,024 nets that an exercise can have, and `read` is the mark of a net that is read
abbrev pub marked_as_read : ℕ → List ℕ → ℕ → Bool
marked_as_read read marks n = eqb read (get_or marks n 0)

-- what the marks and the count say of the cells
pub record MarksAreNets (read : ℕ) (cs : List Record) (marks : List ℕ) (count : ℕ) : Type 0 where
  -- net by net: a net is marked as read exactly if it is read at a port other than cin, polarity aside, and driven by none of the cells
  pub each : (n : ℕ) → n < 1024 → marked_as_read read marks n ≡ (read_in cs n && not (driven_in cs n))
  -- that is, exactly if it is one of rule 64's nets
  pub nets : (n : ℕ) → n < 1024 → marked_as_read read marks n ≡ elemb n (nets_in cs)
  -- the count is the number of marks
  pub number : count ≡ length (filterb (eqb read) marks)
  -- where every net that is read has a mark (13 and 15), the nets marked as read, rising, are rule 64's nets, and the count is rule 64's
  pub all : ((n : ℕ) → read_in cs n ≡ true → n < 1024) → (filterb (marked_as_read read marks) (below 1024) ≡ nets_in cs) × (count ≡ length (nets_in cs))
