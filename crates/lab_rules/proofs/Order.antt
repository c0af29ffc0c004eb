-- The order of a LAB's cells does not matter: each rule of 60 to 65 and the needs ask only which signals and nets the cells bring.
-- Assumes nothing.
use Prim.Native.Nat.{ℕ}
use mathlib.Core.Path.{◌≡◌, ap}
use mathlib.Core.Bool.{not}
use mathlib.Core.List.{List, Permᴰ}
use Rattle.sheet.specs.Lists.{concat_map, elemb}
use Rattle.exercise.specs.Record.{outputs}
use Rattle.exercise.specs.declared.RegisterCell.{RegisterCell}
use Rattle.exercise.specs.declared.Record.{Record}
use Rattle.sheet.proofs.Lists.{filter_same}
use Rattle.distinct.specs.Rising.{rising}
use Rattle.distinct.proofs.Order.{rising_brought, elem_brought}
use Rattle.entries.specs.declared.Need.{Need}
use Rattle.entries.specs.Table.{Table}
use Rattle.route.specs.Way.{earliest_way}
use Rattle.route.specs.Route.{lab_route_of}
use Rattle.lab_nets.specs.NetsIn.{inputs, nets_at, nets_in}
use Rattle.lab_rules.specs.Ports.{clk, ena, aclr, sclr, sload, clock, clock_pair, clear, synchronous, needed, of_register, in_lab}
use Rattle.lab_rules.specs.Rules.{too_many_clocks, too_many_pairs, too_many_clears, too_many_synchronous, too_many_nets, needs, no_way, lab_number, route_of, lab_result}

-- ---- the rules
module _ (cs ds : List Record) (p : Permᴰ cs ds) where
  same_signals : (f : RegisterCell → List ℕ) → rising (in_lab f cs) ≡ rising (in_lab f ds)
  unfolding in_lab
  same_signals f = rising_brought (of_register f) cs ds p

  same_nets : nets_in cs ≡ nets_in ds
  unfolding nets_in
  same_nets =
      rw (rising_brought (λ c. nets_at (inputs c)) cs ds p)
      (filter_same (λ n. not (elemb n (concat_map (λ c. nets_at (outputs c)) cs))) (λ n. not (elemb n (concat_map (λ c. nets_at (outputs c)) ds)))
      (λ z. ap not (elem_brought (λ c. nets_at (outputs c)) cs ds p z)) (rising (concat_map (λ c. nets_at (inputs c)) ds)))

  same_needs : needs cs ≡ needs ds
  unfolding needs
  same_needs = rw (same_signals (needed clk), same_signals (needed ena), same_signals (needed aclr), same_signals (needed sclr), same_signals (needed sload))

  same_number : (t : Table) → lab_number t cs ≡ lab_number t ds
  unfolding lab_number too_many_clocks too_many_pairs too_many_clears too_many_synchronous too_many_nets no_way
  same_number t =
      rw (same_signals clock, same_signals clock_pair, same_signals clear, same_signals synchronous, same_nets, same_needs)

  same_route : (t : Table) → route_of t cs ≡ route_of t ds
  unfolding route_of
  same_route t = ap (λ (ns : List Need). (lab_route_of ns (earliest_way t ns)).bytes) same_needs

  -- CELLS IN ANOTHER ORDER HAVE THE SAME RESULT
  pub any_order : (t : Table) → lab_result t cs ≡ lab_result t ds
  unfolding lab_result
  any_order t = rw (same_number t, same_route t)
