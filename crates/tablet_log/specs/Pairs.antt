-- "The credits add up to the number of distinct (apprentice, minute) pairs in the log." Assumes nothing.
use Rattle.std.specs.Prelude.{ℕ, suc, ◌+◌, Bool, cond, ◌&&◌, List, [], ◌∷◌, map, get_or, eqb}
use Rattle.sheet.specs.Lists.{concat_map, anyb}
use Rattle.tablet_log.specs.declared.Entry.{Entry}
use Rattle.tablet_log.specs.Minutes.{minutes_of}

pub record Pair : Type 0 where
  pub apprentice : ℕ
  pub minute : ℕ

abbrev pub pair : ℕ → ℕ → Pair
pair a m = record { apprentice = a; minute = m }

-- an entry's apprentice with each minute that it covers
abbrev pub pairs_of : Entry → List Pair
pairs_of e = map (pair e.apprentice) (minutes_of e)

-- the pairs of all entries, each as often as an entry covers it
abbrev pub all_pairs : List Entry → List Pair
all_pairs es = concat_map pairs_of es

abbrev pub same_pair : Pair → Pair → Bool
same_pair p q = eqb p.apprentice q.apprentice && eqb p.minute q.minute

-- how many distinct pairs a list has: a pair that comes again is counted later
unfoldable pub distinct_pairs : List Pair → ℕ
distinct_pairs [] = 0
distinct_pairs (p ∷ ps) = let rest = distinct_pairs ps in cond (anyb (same_pair p) ps) rest (suc rest)

-- the credits of rows added up: of each row its second number
unfoldable pub credits_of : List (List ℕ) → ℕ
credits_of [] = 0
credits_of (row ∷ rows) = get_or row 1 0 + credits_of rows
