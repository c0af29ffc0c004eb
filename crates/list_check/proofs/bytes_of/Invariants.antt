-- The loop's invariant: the bytes of the numbers before j stand before zeros.
use mathlib.Core.Path.{◌≡◌}
use Rattle.list_check.proofs.Bytes.{Put}
use Rattle.list_check.proofs.bytes_of.Given as goal

abbrev pub invariant-loop-j : goal.invariant-loop-j
invariant-loop-j l = Put l.fn.cell l.bytes l.j × (l.n-items ≡ l.fn.cell)
