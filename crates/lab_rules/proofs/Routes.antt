-- What the number of a LAB's cells says of all its ways: 65 where 60 to 64 hold and there is none, 0 where they hold and there is one; then the
-- route bytes hold the earliest. Assumes nothing.
use Rattle.std.proofs.lemmas.Bool.Decides.{nat_tests}
use Prim.Native.Nat.{ℕ}
use mathlib.Core.Path.{◌≡◌, refl, sym, ap, ◌∙◌}
use mathlib.Core.Logic.{◌↔◌}
use mathlib.Core.Bool.{Bool, true, false, cond, true≢false}
use mathlib.Core.List.{List}
use mathlib.Core.Option.{Option, none, some}
use native.Mathlib.Omega.{arith}
use Rattle.sheet.specs.Checks.{first_number}
use Rattle.exercise.specs.declared.Record.{Record}
use Rattle.entries.specs.Table.{Table}
use Rattle.route.specs.Way.{Way, earliest_way}
use Rattle.route.specs.Route.{eight_bytes, lab_route_of, HoldsEarliest}
use Rattle.route.proofs.AllWays.{earliest_none, earliest_some, earliest_found}
use Rattle.route.proofs.EightBytes.{slot_held, slot_free}
use Rattle.lab_rules.specs.Rules.{needs, is_none, no_way, lab_rules, lab_number, route_of}
use Rattle.lab_rules.specs.passes.Counts.{AllFit}
use Rattle.lab_rules.proofs.Needed.{needs_room}
use Rattle.lab_rules.proofs.Checks.{rules_held, rules_low, number_is}

is_none_lem : (o : Option (List ℕ)) → is_none o ≡ true → o ≡ none
is_none_lem none q = refl
is_none_lem (some w) q = absurd (true≢false (sym q))

is_some : (o : Option (List ℕ)) → is_none o ≡ false → (w : List ℕ) × (o ≡ some w)
is_some none q = absurd (true≢false q)
is_some (some w) q = (w, refl)

same_test : (c b : Bool) → ◌≡◌ {A = ℕ} (cond c 65 0) (cond b 65 0) → c ≡ b
same_test c b e = grind (arith, nat_tests)

module _ (t : Table) (cs : List Record) where
  -- 65 is broken exactly where there is no way
  pub stuck : (no_way t cs ≡ true) ↔ ((w : List ℕ) → Way t (needs cs) w → ⊥)
  unfolding no_way
  stuck = (λ q. (earliest_none t (needs cs)).0 (is_none_lem (earliest_way t (needs cs)) q), λ h. ap is_none ((earliest_none t (needs cs)).1 h))

  pub goes : (no_way t cs ≡ false) ↔ ((w : List ℕ) × Way t (needs cs) w)
  unfolding no_way
  goes = (
    λ q. let s = is_some (earliest_way t (needs cs)) q in (s.0, (earliest_some t (needs cs) s.0 s.1).0),
    λ p. ap is_none (earliest_found t (needs cs) p.0 p.1).1,
  )

  -- ---- the number
  -- a number of 60 to 64 is neither 65 nor 0
  neither : (b : Bool) → (first_number (lab_rules cs) ≡ 0 → ⊥) → first_number (lab_rules cs) ≡ cond b 65 0 → ⊥
  neither true h q = omega (arith, rules_low cs)
  neither false h q = h q

  pub told : (b : Bool) → (lab_number t cs ≡ cond b 65 0) ↔ ((first_number (lab_rules cs) ≡ 0) × (no_way t cs ≡ b))
  told b = (there, λ h. number_is t cs ∙ rw (h.0, h.1))
    where
      there : lab_number t cs ≡ cond b 65 0 → (first_number (lab_rules cs) ≡ 0) × (no_way t cs ≡ b)
      there q = grind (arith, nat_tests, number_is t cs, rules_low cs)

  -- ---- the route bytes
  way_bytes : (w : List ℕ) → earliest_way t (needs cs) ≡ some w → route_of t cs ≡ eight_bytes (needs cs) w
  unfolding route_of lab_route_of
  way_bytes w q = ap (λ (o : Option (List ℕ)). (lab_route_of (needs cs) o).bytes) q

  -- THE ROUTE BYTES OF A LAB THAT KEEPS 60 TO 65 HOLD ITS EARLIEST WAY
  pub lab_legal : AllFit cs → lab_number t cs ≡ 0 → HoldsEarliest t (needs cs) (route_of t cs)
  lab_legal fit z =
      let g = (told false).0 z in
      let r = rules_held cs g.0 in
      let some-way = goes.0 g.1 in
      let way = earliest_found t (needs cs) some-way.0 some-way.1 in
      let first = earliest_some t (needs cs) way.0 way.1 in
      let bytes = way_bytes way.0 way.1 in
      let fits = needs_room cs fit r.0 r.1 r.2 r.3 in
      record {
        w = way.0;
        is_way = first.0;
        others_later = first.1;
        held = λ i m. rw bytes (slot_held (needs cs) way.0 first.0.as_long fits i m);
        no_need_255 = λ b s u. rw bytes (slot_free (needs cs) way.0 first.0.as_long b s u);
      }
