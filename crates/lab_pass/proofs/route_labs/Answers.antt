-- The loops' invariant: no LAB below `lab` is broken, the bytes and the tries of the occupied ones below are put, `search` holds the result and the tries of the
-- `previous` counts and nets, and all marks are lower than those of `lab`.
use Prim.Native.Nat.{◌+◌, ◌*◌}
use mathlib.Core.Path.{◌≡◌, refl, ◌∙◌}
use native.Mathlib.Omega.{arith}
use lib.ListN.{replicate}
use Rattle.std.specs.Prelude.{Ok}
use Rattle.lab_pass.proofs.Passing.{pass_starts, pass_skips, pass_skips_group, pass_goes, pass_stops, pass_ends}
use Rattle.lab_pass.proofs.Same.{idle_search}
use Rattle.lab_pass.proofs.Marked.{lower_skips, lower_skips_group, marks_rise, lower_here, lower_after}
use Rattle.distinct.proofs.Nets.{lower_none}
use Rattle.lab_pass.proofs.route_labs.Goals as goal

pub loop-group-init : goal.loop-group-init
loop-group-init c =
    (pass_starts _ _ _ _ _ _, c.lab_search-search.ensures, lower_none 1024 1 (omega arith))

pub loop-group-preserved-then-not-any_occupied : goal.loop-group-preserved-then-not-any_occupied
loop-group-preserved-then-not-any_occupied c =
    let l = c.loop-group in (
      pass_skips_group _ _ _ _ _ _ _ _ l.group _ (omega (arith, c.loop-group-test.true)) c.any_occupied.ensures c.if-not-any_occupied.true l.invariant.0,
      l.invariant.1,
      lower_skips_group _ _ l.invariant.2,
    )

pub loop-lab-init : goal.loop-lab-init
loop-lab-init c =
    let l = c.loop-group in
    (l.invariant.0, l.invariant.1, l.invariant.2, omega arith)

pub loop-lab-preserved-in_default : goal.loop-lab-preserved-in_default
loop-lab-preserved-in_default c =
    let l = c.loop-lab in (
      pass_skips _ _ _ _ _ _ _ _ _ l.invariant.0 (omega (arith, c.loop-group-test.true, c.loop-lab-test.true)) c.in_default.ensures,
      l.invariant.1,
      lower_skips _ _ l.invariant.2,
      omega (arith, c.loop-lab-test.true),
    )

pub counted_from-counted-requires-clause-rising : goal.counted_from-counted-requires-clause-rising
counted_from-counted-requires-clause-rising c =
    marks_rise _ _ c.marks_of.ensures

pub counted_from-counted-requires-clause-lower : goal.counted_from-counted-requires-clause-lower
counted_from-counted-requires-clause-lower c =
    let l = c.loop-lab in
    lower_here l.lab _ c.marks_of.ensures _ l.invariant.2

pub loop-lab-preserved-then-eq : goal.loop-lab-preserved-then-eq
loop-lab-preserved-then-eq c = (
  rw c.from.ensures (pass_goes _ _ _ _ _ _ _ _ _ c.loop-lab.invariant.0 (omega (arith, c.loop-group-test.true, c.loop-lab-test.true)) _ c.in-Some.ensures
      (record { found = Ok (replicate 8 255); tries = 0 })
      (idle_search _ _ _ _ c.eq.ensures c.if-eq.true c.none.ensures refl _ _ c.counted_from-counted.ensures.told) _ refl _ _
      c.put_row.ensures refl),
  c.loop-lab.invariant.1,
  lower_after c.loop-lab.lab _ c.marks_of.ensures _ c.counted_from-counted.ensures.kept,
  omega (arith, c.loop-lab-test.true),
)

pub returns-in-Err-clause-found : goal.returns-in-Err-clause-found
returns-in-Err-clause-found c =
    let l = c.loop-lab in
    (pass_stops _ _ _ _ _ _ _ _ _ l.invariant.0 (omega (arith, c.loop-group-test.true, c.loop-lab-test.true)) _ c.in-Some.ensures c.solve-search.result
    (c.solve-search.ensures ∙ c.counted_from-counted.ensures.told.told _) _ c.in-Err.is _ refl).0

pub returns-in-Err-clause-written : goal.returns-in-Err-clause-written
returns-in-Err-clause-written c =
    let l = c.loop-lab in
    (pass_stops _ _ _ _ _ _ _ _ _ l.invariant.0 (omega (arith, c.loop-group-test.true, c.loop-lab-test.true)) _ c.in-Some.ensures c.solve-search.result
    (c.solve-search.ensures ∙ c.counted_from-counted.ensures.told.told _) _ c.in-Err.is _ refl).1.0

pub returns-in-Err-clause-counted : goal.returns-in-Err-clause-counted
returns-in-Err-clause-counted c =
    let l = c.loop-lab in
    rw c.from-in-loop-lab.ensures (pass_stops _ _ _ _ _ _ _ _ _ l.invariant.0 (omega (arith, c.loop-group-test.true, c.loop-lab-test.true)) _ c.in-Some.ensures c.solve-search.result
    (c.solve-search.ensures ∙ c.counted_from-counted.ensures.told.told _) _ c.in-Err.is _ refl).1.1

pub loop-lab-preserved : goal.loop-lab-preserved
loop-lab-preserved c =
    let l = c.loop-lab in (
      rw c.from-in-loop-lab.ensures (pass_goes _ _ _ _ _ _ _ _ _ l.invariant.0 (omega (arith, c.loop-group-test.true, c.loop-lab-test.true)) _ c.in-Some.ensures c.solve-search.result
          (c.solve-search.ensures ∙ c.counted_from-counted.ensures.told.told _) _ c.in-Ok.is _ _ c.put_row-in-Ok.ensures refl),
      c.solve-search.ensures,
      lower_after l.lab _ c.marks_of.ensures _ c.counted_from-counted.ensures.kept,
      omega (arith, c.loop-lab-test.true),
    )

pub loop-group-preserved : goal.loop-group-preserved
loop-group-preserved c =
    let l = c.loop-lab in
    let end : l.lab ≡ 8 * (c.loop-group.group + 1) = omega (arith, l.invariant.3, c.loop-lab-test.false) in
    (rw end at l.invariant.0, l.invariant.1, rw end at l.invariant.2)

pub returns-clause-found : goal.returns-clause-found
returns-clause-found c =
    (pass_ends _ _ _ _ _ _ _ _ _ c.loop-group.invariant.0 (omega (arith, c.loop-group-test.false))).0
