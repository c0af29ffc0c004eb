-- What the counts and the number of nets say of a LAB is what rules 60 to 65 say of its cells. Assumes nothing.
use Prim.Native.Nat.{ℕ}
use mathlib.Core.Path.{◌≡◌, refl}
use mathlib.Core.Bool.{cond}
use mathlib.Core.List.{List}
use mathlib.Core.Option.{Option, none, some}
use native.Mathlib.Omega.{arith}
use lib.ListN.{length, replicate}
use lib.Dec.{eqb}
use borrow.Author.Tests.{eqb-true, eq-eqb}
use Rattle.sheet.specs.Checks.{first_number}
use Rattle.exercise.specs.declared.Record.{Record}
use Rattle.sheet.proofs.Laws.{by_test}
use Rattle.distinct.specs.Rising.{rising}
use Rattle.distinct.proofs.Codes.{more_than}
use Rattle.entries.specs.declared.Need.{Need}
use Rattle.entries.specs.Table.{Table}
use Rattle.route.specs.Way.{earliest_way}
use Rattle.route.specs.Route.{lab_route_of}
use Rattle.lab_nets.specs.NetsIn.{nets_in}
use Rattle.lab_rules.specs.Ports.{clock, clock_pair, clear, synchronous, in_lab}
use Rattle.lab_rules.specs.Rules.{too_many_clocks, too_many_pairs, too_many_clears, too_many_synchronous, too_many_nets, needs, is_none, no_way, lab_rules, route_of, lab_result, lab_tries}
use Rattle.lab_rules.specs.passes.Counts.{counts_of, broken_by, routed_result, result_from, tries_for, AllFit}
use Rattle.lab_rules.proofs.Needed.{needs_held_lem}
use Rattle.lab_rules.proofs.Checks.{rules_held, number_is}

broken_is : (cs : List Record) → broken_by (counts_of cs) (length (nets_in cs)) ≡ first_number (lab_rules cs)
unfolding broken_by counts_of too_many_clocks too_many_pairs too_many_clears too_many_synchronous too_many_nets
broken_is cs =
    rw (
      more_than 2 (omega arith) (rising (in_lab clock cs)),
      more_than 2 (omega arith) (rising (in_lab clock_pair cs)),
      more_than 2 (omega arith) (rising (in_lab clear cs)),
      more_than 1 (omega arith) (rising (in_lab synchronous cs)),
    )

-- 65 where no way is found
routed_is : (ns : List Need) (way : Option (List ℕ))
    → routed_result (lab_route_of ns way) ≡ record { number = cond (is_none way) 65 0; bytes = cond (eqb (cond (is_none way) 65 0) 0) (lab_route_of ns way).bytes (replicate 8 255) }
unfolding lab_route_of
routed_is ns none = refl
routed_is ns (some w) = refl

-- 60 to 65
pub result_is : (t : Table) (cs : List Record) → AllFit cs → result_from t (counts_of cs) (length (nets_in cs)) ≡ lab_result t cs
unfolding result_from lab_result route_of no_way
result_is t cs fit =
    rw (broken_is cs, number_is t cs)
    (by_test (eqb (first_number (lab_rules cs)) 0)
    (λ z. let h = rules_held cs (eqb-true (first_number (lab_rules cs)) 0 z) in
    rw (z, needs_held_lem cs fit h.0 h.1 h.2 h.3) (routed_is (needs cs) (earliest_way t (needs cs))))
    (λ z. rw (z, z)))

-- the tries of a LAB that keeps 60 to 64
pub tries_are : (t : Table) (cs : List Record) → AllFit cs → first_number (lab_rules cs) ≡ 0 → tries_for t (counts_of cs) (length (nets_in cs)) ≡ lab_tries t cs
unfolding tries_for lab_tries
tries_are t cs fit z =
    let h = rules_held cs z in
    rw (broken_is cs, eq-eqb (first_number (lab_rules cs)) 0 z, needs_held_lem cs fit h.0 h.1 h.2 h.3)
