-- The loop's invariant: the marks are those of the cells below `i`.
use mathlib.Core.Path.{◌≡◌}
use Rattle.listing.specs.passes.Marks.{marks_of}
use Rattle.listing.proofs.marks_of.Given as goal

abbrev pub invariant-loop-i : goal.invariant-loop-i
invariant-loop-i l = l.marks ≡ marks_of l.answer l.i
