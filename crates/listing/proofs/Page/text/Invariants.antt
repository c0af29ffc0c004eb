-- The loop's invariant: the text is written up to the byte at hand.
use lib.ListN.{take}
use Rattle.listing.specs.passes.Writes.{Writes}
use Rattle.listing.proofs.Page.text.Given as goal

abbrev pub invariant-loop-byte : goal.invariant-loop-byte
invariant-loop-byte l = Writes l.initial.self (take l.byte-index l.text) l.byte-index l.self
