-- The loop's invariant: of the entries below i, those that cover nothing are listed, and n is their number.
use Rattle.tablet_log.proofs.Listing.{Listed}
use Rattle.tablet_log.proofs.list_empty.Given as goal

abbrev pub invariant-loop-i : goal.invariant-loop-i
invariant-loop-i l = Listed l.log l.initial.numbers l.numbers l.count l.n l.i
