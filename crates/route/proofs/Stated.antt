-- The theorems of the earliest way, of the search and of what a table serves, each as one statement. Assumes nothing.
use Rattle.route.specs.Way.{EarliestLaw}
use Rattle.route.specs.Served.{ServedLaw}
use Rattle.route.specs.Found.{FoundLaw}
use Rattle.route.proofs.AllWays.{found_earliest, earliest_none, earliest_some, same_earliest, rows_serve}
use Rattle.route.proofs.Tries.{made_tries, same_tries}

pub earliest_law : EarliestLaw
earliest_law = record { none_exactly = earliest_none; some_first = earliest_some }

pub served_law : ServedLaw
served_law = record { same_earliest = same_earliest; same_tries = same_tries }

pub found_law : FoundLaw
found_law = record { found_earliest = found_earliest; made_tries = made_tries; rows_serve = rows_serve }
