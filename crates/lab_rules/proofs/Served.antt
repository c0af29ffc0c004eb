-- Two tables whose entries serve the same give a LAB the same number, the same route and the same tries. Assumes nothing.
use Prim.Native.Nat.{ℕ}
use mathlib.Core.Path.{◌≡◌, ap}
use mathlib.Core.List.{List, [], ◌∷◌, ◌++◌}
use mathlib.Core.Option.{Option}
use Rattle.sheet.specs.Checks.{check, first_number}
use Rattle.exercise.specs.declared.Record.{Record}
use Rattle.entries.specs.Table.{Table}
use Rattle.route.specs.Route.{lab_route_of}
use Rattle.route.specs.Served.{SameServed}
use Rattle.route.proofs.AllWays.{same_earliest}
use Rattle.route.proofs.Tries.{same_tries as tries-served}
use Rattle.lab_rules.specs.Rules.{needs, is_none, no_way, lab_rules, lab_number, route_of, lab_tries, lab_result}

module _ (t u : Table) (same : SameServed t u) (cs : List Record) where
  -- 65
  number_same : lab_number t cs ≡ lab_number u cs
  unfolding lab_number no_way
  number_same = ap (λ (o : Option (List ℕ)). first_number (lab_rules cs ++ check 65 (is_none o) ∷ [])) (same_earliest t u same (needs cs))

  route_same : route_of t cs ≡ route_of u cs
  unfolding route_of
  route_same = ap (λ (o : Option (List ℕ)). (lab_route_of (needs cs) o).bytes) (same_earliest t u same (needs cs))

  pub same_result : lab_result t cs ≡ lab_result u cs
  unfolding lab_result
  same_result = rw (number_same, route_same)

  pub same_tries : lab_tries t cs ≡ lab_tries u cs
  unfolding lab_tries
  same_tries = tries-served t u same (needs cs)
