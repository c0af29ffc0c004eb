-- Request M-107 beside document 01's way, in which each need has an entry of its own: no way is lost, and where all nets are different there is no
-- other. Assumes nothing.
use Rattle.std.specs.Prelude.{ℕ, ◌<◌, ◌≡◌, true, List, length, get_or}
use Rattle.entries.specs.declared.Need.{Need}
use Rattle.entries.specs.Table.{Table, serves, need_at, need_net}
use Rattle.route.specs.Way.{Way}

-- document 01: "A way gives each need its own entry that serves the role"
pub record OwnWay (t : Table) (ns : List Need) (w : List ℕ) : Type 0 where
  pub as_long : length w ≡ length ns
  pub serving : (i : ℕ) → i < length ns → serves t (get_or w i 0) (need_at ns i).role ≡ true
  pub its_own : (i j : ℕ) → i < j → j < length ns → get_or w i 0 ≡ get_or w j 0 → ⊥

-- no two needs are of one net
abbrev pub DifferentNets : List Need → Type 0
DifferentNets ns = (i j : ℕ) → i < j → j < length ns → need_net (need_at ns i) ≡ need_net (need_at ns j) → ⊥

-- THE THEOREM
pub record SharingLaw : Type 0 where
  pub none_lost : (t : Table) (ns : List Need) (w : List ℕ) → OwnWay t ns w → Way t ns w
  pub no_other : (t : Table) (ns : List Need) (w : List ℕ) → DifferentNets ns → Way t ns w → OwnWay t ns w
