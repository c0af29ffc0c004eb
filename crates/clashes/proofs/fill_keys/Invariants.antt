-- Each cell before i has a key, which is put into the table and stands there.
use mathlib.Core.Path.{◌≡◌}
use Rattle.clashes.specs.passes.Keys.{KeysOf, put_keys}
use Rattle.clashes.proofs.fill_keys.Given as goal

abbrev pub invariant-loop-i : goal.invariant-loop-i
invariant-loop-i l = KeysOf l.exercise l.answer l.keys l.i × (l.keys ≡ put_keys l.exercise l.answer l.initial.keys l.i)
