-- Request M-105: who is credited with what, and which entries are listed. Assumes nothing.
use Rattle.std.specs.Prelude.{ℕ, ◌-◌, Bool, List, [], ◌∷◌, map, eqb, leb}
use Rattle.sheet.specs.Lists.{concat_map, filterb, from, below}
use Rattle.distinct.specs.Rising.{rising, distinct}
use Rattle.tablet_log.specs.declared.Entry.{Entry}
use Rattle.tablet_log.specs.Log.{entry_count, entry_at}

-- the minutes that an entry covers: from its opening to its closing, "closing not included". None where it closes at or before its opening
abbrev pub minutes_of : Entry → List ℕ
minutes_of e = from e.opening (e.closing - e.opening)

-- "Credit goes to the apprentice on the entry, never to the login"
abbrev pub is_own : ℕ → Entry → Bool
is_own a e = eqb e.apprentice a

-- the minutes covered by an apprentice's own entries, one entry after the other
abbrev pub own_minutes : List Entry → ℕ → List ℕ
own_minutes es a = concat_map minutes_of (filterb (is_own a) es)

-- "An apprentice's minutes are the distinct minutes covered by that person's own entries"
unfoldable pub credit : List Entry → ℕ → ℕ
credit es a = distinct (own_minutes es a)

-- the apprentices, "in rising order, those with no minutes too"
unfoldable pub apprentices : List Entry → List ℕ
apprentices es = rising (map (λ e. e.apprentice) es)

-- an apprentice's row: the apprentice, the minutes
abbrev pub row_of : List Entry → ℕ → List ℕ
row_of es a = a ∷ credit es a ∷ []

unfoldable pub rows_of : List Entry → List (List ℕ)
rows_of es = map (row_of es) (apprentices es)

-- "An entry that closes at or before its opening covers none"
abbrev pub covers_none : Entry → Bool
covers_none e = leb e.closing e.opening

-- the numbers of those among the first n entries, "the first entry is 0", "listed, rising"
unfoldable pub empty_below : List ℕ → ℕ → List ℕ
empty_below l n = filterb (λ i. covers_none (entry_at l i)) (below n)

abbrev pub listed_of : List ℕ → List ℕ
listed_of l = empty_below l (entry_count l)
