-- How the lines of the LABs are found in the route buffer: a mark for each LAB that has a cell, and eight bytes for each LAB. Assumes nothing.
use Rattle.std.specs.Prelude.{ℕ, zero, suc, ◌+◌, ◌*◌, Bool, true, false, cond, List, [], ◌∷◌, replicate, get_or, set}
use Rattle.sheet.specs.Lists.{concat_map, below}
use Rattle.sheet.specs.Bytes.{byte_at}
use Rattle.placing.specs.Places.{lab_at}
use Rattle.listing.specs.Listing.{lab_line}

-- the marks that the first n cells make
unfoldable pub marks_of : List ℕ → ℕ → List Bool
marks_of a zero = replicate 1024 false
marks_of a (suc n) = set (marks_of a n) (lab_at a n) true

abbrev pub is_marked : List Bool → ℕ → Bool
is_marked marks l = get_or marks l false

-- "8 bytes per LAB at 8 × LAB number"
unfoldable pub row_at : List ℕ → ℕ → List ℕ
row_at route l =
    let at = 8 * l in
    byte_at route at
    ∷ byte_at route (at + 1)
    ∷ byte_at route (at + 2)
    ∷ byte_at route (at + 3)
    ∷ byte_at route (at + 4)
    ∷ byte_at route (at + 5)
    ∷ byte_at route (at + 6)
    ∷ byte_at route (at + 7)
    ∷ []

-- the line of LAB l where it is marked
unfoldable pub line_at : List Bool → List ℕ → ℕ → List ℕ
line_at marks route l = cond (is_marked marks l) (lab_line l (row_at route l)) []

-- the lines of the marked LABs below n, rising
unfoldable pub lines_below : List Bool → List ℕ → ℕ → List ℕ
lines_below marks route n = concat_map (line_at marks route) (below n)
