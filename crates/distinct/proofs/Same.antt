-- Counters that `==` finds the same are equal. Assumes nothing.
use Rattle.std.proofs.Common.{◌≡◌, true, rules}
use Rattle.distinct.specs.declared.UpToTwo.{UpToTwo}
use Rattle.distinct.specs.contracts.UpToTwoPartialEq.TheImpl.{ghosts}

pub same_codes : (a b : UpToTwo) → ghosts.eq a b ≡ true → a ≡ b
same_codes a b h = search rules
