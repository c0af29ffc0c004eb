-- Ways and tries ask of a table only what its entries serve. Assumes nothing.
use Rattle.std.specs.Prelude.{ℕ, ◌≡◌, List}
use Rattle.entries.specs.declared.Need.{Need}
use Rattle.entries.specs.Table.{Table, serves}
use Rattle.route.specs.Way.{earliest_way}
use Rattle.route.specs.Tries.{tries}

-- entry by entry and role by role, two tables serve the same
abbrev pub SameServed : Table → Table → Type 0
SameServed t u = (e r : ℕ) → serves t e r ≡ serves u e r

-- THE THEOREM: such tables have the same earliest way and the same tries
pub record ServedLaw : Type 0 where
  pub same_earliest : (t u : Table) → SameServed t u → (ns : List Need) → earliest_way t ns ≡ earliest_way u ns
  pub same_tries : (t u : Table) → SameServed t u → (ns : List Need) → tries t ns ≡ tries u ns
