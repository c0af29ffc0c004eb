-- Each call has one digit fewer: the measure is the number.
use Rattle.listing.proofs.Page.+number.Given as goal

abbrev pub decreases-number : goal.decreases-number
decreases-number l = l.n
