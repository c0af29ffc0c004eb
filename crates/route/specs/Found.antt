-- What the search finds and counts is the earliest way and the tries. The names from `passes` are what contracts promise; their text need not be read.
-- Assumes nothing.
use Rattle.std.specs.Prelude.{◌≤◌, ◌≡◌, List, length}
use Rattle.entries.specs.declared.Need.{Need}
use Rattle.entries.specs.Table.{Table, ENTRIES, eight_rows}
use Rattle.route.specs.Way.{earliest_way}
use Rattle.route.specs.Tries.{tries}
use Rattle.route.specs.Served.{SameServed}
use Rattle.route.specs.passes.Search.{found_way, tries_made}

-- THE THEOREM
pub record FoundLaw : Type 0 where
  -- the search of a LAB's needs finds the earliest of all ways, and makes as many tries as there are
  pub found_earliest : (t : Table) (ns : List Need) → found_way t ns ≡ earliest_way t ns
  pub made_tries : (t : Table) (ns : List Need) → tries_made t ns ≡ tries t ns
  -- the eight rows that it is given serve what the table's entries do, so those past the table's end change nothing
  pub rows_serve : (t : Table) → length t ≤ ENTRIES → SameServed (eight_rows t) t
