-- The loops' invariant: no LAB below `lab` is broken, the bytes and the tries of the occupied ones below are put, `search` holds the result and the tries of the
-- `previous` counts and nets, and all marks are lower than those of `lab`.
use Prim.Native.Nat.{◌+◌, ◌*◌, ◌≤◌}
use mathlib.Core.Path.{◌≡◌}
use Rattle.lab_rules.specs.passes.Counts.{lab_search_from, searched}
use Rattle.lab_pass.proofs.Passing.{Passed}
use Rattle.lab_pass.proofs.Marked.{LowerThan}
use Rattle.exercise.specs.passes.Known.{known_at}
use Rattle.lab_pass.proofs.route_labs.Given as goal

abbrev pub invariant-loop-group : goal.invariant-loop-group
invariant-loop-group l = Passed l.table (known_at l.exercise) l.first l.next l.fn.rows l.fn.tries l.rows l.tries (8 * l.group) × (lab_search_from l.search ≡ searched l.table l.previous.counts l.previous.nets)
    × LowerThan (8 * l.group) l.marks

abbrev pub invariant-loop-lab : goal.invariant-loop-lab
invariant-loop-lab l = Passed l.table (known_at l.exercise) l.first l.next l.fn.rows l.fn.tries l.rows l.tries l.lab × (lab_search_from l.search ≡ searched l.table l.previous.counts l.previous.nets)
    × LowerThan l.lab l.marks × (l.lab ≤ 8 * l.group + 8)
