-- The digits of the quotient by ten where there are any, then the remainder.
use Rattle.listing.proofs.Digits.{one_digit, more_digits}
use Rattle.listing.proofs.Page.+number.Goals.{then-n-ge10, else-n-ge10}
use Rattle.listing.proofs.Page.+number.Goals as goal

pub returns : goal.returns
returns t c =
    elim c.if-n-ge10.branch [
      | then-n-ge10 w ↦ more_digits c.args.n w.if-n-ge10.true c.ranges.n.fits w.number.ensures (rw w.self-is at c.byte.ensures)
      | else-n-ge10 w ↦ one_digit c.args.n w.if-n-ge10.false (rw w.self-is at c.byte.ensures)
    ]
