-- The marks that count nets, one number a net, and the count of the nets marked as read. Each LAB has two marks of its own, higher than those of the
-- LABs before it, so nothing has to be cleared between two LABs. Assumes nothing.
use Rattle.std.specs.Prelude.{◌≡◌, ℕ, ◌+◌, ◌-◌, ◌%◌, ◌<◌, Bool, cond, ◌&&◌, List, [], ◌∷◌, length, ◌==◌, nat_eq, nat_lt, slice_index, slice_set}
use Rattle.sheet.specs.Lists.{filterb}
use Rattle.distinct.specs.declared.LabMarks.{LabMarks}

-- what a cell does to a net: it reads it, or it drives it
pub data Use : Type 0 where
  reads drives : ℕ → Use

-- the nets that are read, and those that are driven, in the order of their uses
abbrev pub nets_read : List Use → List ℕ
nets_read [] = []
nets_read (reads n ∷ us) = n ∷ nets_read us
nets_read (drives n ∷ us) = nets_read us

abbrev pub nets_driven : List Use → List ℕ
nets_driven [] = []
nets_driven (reads n ∷ us) = nets_driven us
nets_driven (drives n ∷ us) = n ∷ nets_driven us

-- the marks, and the count of nets marked as read
pub record Marking : Type 0 where
  pub marks : List ℕ
  pub count : ℕ

abbrev pub marking : List ℕ → ℕ → Marking
marking marks count = record { marks = marks; count = count }

-- the mark of net n is lower than those of the LAB; it says that the net is read. A net past the end has no mark
unfoldable pub is_unseen : LabMarks → List ℕ → ℕ → Bool
is_unseen l marks n = nat_lt n (length marks) && nat_lt (slice_index marks n) l.read

unfoldable pub is_read : LabMarks → List ℕ → ℕ → Bool
is_read l marks n = nat_lt n (length marks) && slice_index marks n == l.read

-- one more, in 16 bits: no count comes near their end
unfoldable pub one_more : ℕ → ℕ
one_more k = (k + 1) % 65536

-- once net n is read: a net that is driven in the LAB stays so
unfoldable pub mark_read : LabMarks → Marking → ℕ → Marking
mark_read l m n = cond (is_unseen l m.marks n) (marking (slice_set m.marks n l.read) (one_more m.count)) m

-- once net n is driven
unfoldable pub mark_driven : LabMarks → Marking → ℕ → Marking
mark_driven l m n = marking (slice_set m.marks n l.driven) (cond (is_read l m.marks n) (m.count - 1) m.count)

abbrev pub mark : LabMarks → Marking → Use → Marking
mark l m (reads n) = mark_read l m n
mark l m (drives n) = mark_driven l m n

-- after a list of uses
unfoldable pub mark_all : LabMarks → Marking → List Use → Marking
mark_all l m [] = m
mark_all l m (u ∷ us) = mark_all l (mark l m u) us

-- how many nets are marked as read
unfoldable pub read_marks : LabMarks → List ℕ → ℕ
read_marks l marks = length (filterb (nat_eq l.read) marks)

-- the marks of n nets, all below b
pub record Lower (n b : ℕ) (marks : List ℕ) : Type 0 where
  pub long : length marks ≡ n
  pub low : (k : ℕ) → k < n → slice_index marks k < b
