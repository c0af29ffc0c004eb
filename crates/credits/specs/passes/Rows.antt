-- The passes over entries that are sorted by apprentice and opening minute: the row that they are at, of the last apprentice so far. Assumes nothing.
use Rattle.std.specs.Prelude.{ℕ, ◌+◌, ◌-◌, max, cond, List, [], ◌∷◌, Option, Some, None, set, eqb, ltb}
use Rattle.tablet_log.specs.declared.Entry.{Entry}
use Rattle.credits.specs.declared.Row.{Row}

-- how many rows are begun, and the minutes of the last one
abbrev pub rows_begun : Option Row → ℕ
rows_begun None = 0
rows_begun (Some r) = r.number + 1

abbrev pub minutes_so_far : Option Row → ℕ
minutes_so_far None = 0
minutes_so_far (Some r) = r.minutes

-- an entry of another apprentice begins a row
abbrev pub new_row : ℕ → Entry → Row
new_row n e = record { number = n; apprentice = e.apprentice; until = 0; minutes = 0 }

unfoldable pub begun : Option Row → Entry → Row
begun None e = new_row 0 e
begun (Some r) e = cond (eqb r.apprentice e.apprentice) r (new_row (r.number + 1) e)

-- an own entry adds its minutes from the last closing so far on
unfoldable pub added : Row → Entry → Row
added r e =
    let start = max r.until e.opening in
    cond (ltb start e.closing) (record { number = r.number; apprentice = r.apprentice; until = e.closing; minutes = r.minutes + (e.closing - start) }) r

abbrev pub with_entry : Option Row → Entry → Row
with_entry last e = added (begun last e) e

-- after all of the entries
unfoldable pub row_after : Option Row → List Entry → Option Row
row_after last [] = last
row_after last (e ∷ es) = row_after (Some (with_entry last e)) es

-- a row in its place
abbrev pub stored : List (List ℕ) → Row → List (List ℕ)
stored rows r = set rows r.number (r.apprentice ∷ r.minutes ∷ [])

-- the rows after all of the entries: each entry stores the row of its apprentice
unfoldable pub rows_by : Option Row → List (List ℕ) → List Entry → List (List ℕ)
rows_by last rows [] = rows
rows_by last rows (e ∷ es) = let r = with_entry last e in rows_by (Some r) (stored rows r) es
