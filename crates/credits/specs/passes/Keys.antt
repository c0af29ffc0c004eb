-- The numbers by which the entries are sorted: apprentice, opening minute, number of the entry. Assumes nothing.
use Rattle.std.specs.Prelude.{ℕ, ◌+◌, ◌*◌, ◌%◌, List, map}
use Rattle.sheet.specs.Lists.{below}
use Rattle.sorting.specs.Sorted.{sorted}
use Rattle.tablet_log.specs.declared.Entry.{Entry}
use Rattle.tablet_log.specs.Log.{entry_at}

-- an opening minute is below 16,384, an entry's number below 1,024
unfoldable pub key_at : List ℕ → ℕ → ℕ
key_at l i = let e = entry_at l i in (e.apprentice * 16384 + e.opening) * 1024 + i

-- the entry of a key
abbrev pub entry_of : List ℕ → ℕ → Entry
entry_of l k = entry_at l (k % 1024)

-- the keys of the first n entries, rising
unfoldable pub keys_of : List ℕ → ℕ → List ℕ
keys_of l n = sorted (map (key_at l) (below n))
