-- What one entry is to a need, as the search asks it. Assumes nothing.
use Rattle.std.specs.Prelude.{ℕ, ◌+◌, Bool, cond, not, ◌&&◌, ◌||◌, List, get_or, eqb}
use Rattle.entries.specs.declared.Need.{Need}
use Rattle.entries.specs.Table.{Table, serves, need_net}

-- what marks an entry that the need has: one more than the number of its net, so never 0
abbrev pub holder : Need → ℕ
holder n = need_net n + 1

-- the need may have entry e: it serves the role, and no need of another net has it. `held` says of each entry whose it is, 0 where it is free
abbrev pub may_have : Table → List ℕ → Need → ℕ → Bool
may_have t held n e = serves t e n.role && (eqb (get_or held e 0) 0 || eqb (get_or held e 0) (holder n))

-- entry e serves the need m, which is of another net than n
abbrev pub serves_other : Table → Need → ℕ → Need → Bool
serves_other t n e m = not (eqb (need_net m) (need_net n)) && serves t e m.role

-- which of the two entries serves m is not the same
abbrev pub differ_for : Table → ℕ → ℕ → Need → Bool
differ_for t f e m = cond (serves t f m.role) (not (serves t e m.role)) (serves t e m.role)
