-- Document 01's ways are ways, and where all nets are different there is no other. Assumes nothing.
use Prim.Native.Nat.{ℕ}
use mathlib.Core.List.{List}
use Rattle.entries.specs.declared.Need.{Need}
use Rattle.entries.specs.Table.{Table}
use Rattle.route.specs.Way.{Way}
use Rattle.route.specs.Shared.{OwnWay, DifferentNets, SharingLaw}

own_way : (t : Table) (ns : List Need) (w : List ℕ) → OwnWay t ns w → Way t ns w
own_way t ns w h = record { as_long = h.as_long; serving = h.serving; one_net = λ i j l m q. absurd (h.its_own i j l m q) }

way_own : (t : Table) (ns : List Need) (w : List ℕ) → DifferentNets ns → Way t ns w → OwnWay t ns w
way_own t ns w different h = record { as_long = h.as_long; serving = h.serving; its_own = λ i j l m q. different i j l m (h.one_net i j l m q) }

-- M-107: NO WAY IS LOST, AND DIFFERENT NETS HAVE DOCUMENT 01'S WAYS
pub sharing_law : SharingLaw
sharing_law = record { none_lost = own_way; no_other = way_own }
