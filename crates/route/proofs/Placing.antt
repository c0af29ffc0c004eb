-- The places in the code of `place`, one law for each, over plain lists: each fact that the law rests on is a hypothesis of its own, as the code has
-- it there, so that nothing is searched for among all that is known at a place. Assumes nothing.
use Prim.Native.Nat.{ℕ, ◌+◌, ◌-◌, ◌<◌, ◌≤◌}
use mathlib.Core.Path.{◌≡◌, refl, sym, ap, ◌∙◌}
use mathlib.Core.Bool.{Bool, true, false}
use mathlib.Core.List.{List, [], ◌∷◌}
use mathlib.Core.Option.{none}
use native.Mathlib.Omega.{arith}
use lib.ListN.{length, get_or, set, take, drop, replicate}
use lib.Seq.{take_all}
use mir.Syntax.{w32}
use mir.Val.{Fits}
use Rattle.std.specs.Prelude.{Some, None}
use Rattle.std.specs.Prelude as std
use Rattle.entries.specs.declared.Need.{Need}
use Rattle.entries.specs.Table.{Table, ENTRIES}
use Rattle.route.specs.declared.Failure.{Failure}
use Rattle.route.specs.passes.Search.{search_from, tries_from, held_by, is_idle, FailedLike}
use Rattle.entries.specs.passes.Entries.{holder, may_have}
use Rattle.route.specs.passes.Partial.{routed_from}
use Rattle.route.proofs.Steps.{found_none, no_entry_left}
use Rattle.route.proofs.Turns.{Left, rest_of, after_of, no_need_lem, no_need_tries, turn_starts, turn_ends, turn_ends_tries, not_given_goes, turn_room, not_found_goes, found_stops, found_stops_tries}
use Rattle.route.proofs.Repeats.{AllNoted, none_noted, noted_next, like_fails}
use Rattle.route.proofs.Limit.{place_limit}

module _ (t : Table) where
  -- what is found for the needs ns, the first of them number i, and with how many tries, where the entries are held so
  abbrev found : ℕ → List ℕ → List Need → std.Option (List ℕ)
  found i held ns = routed_from i (search_from (may_have t) held_by ENTRIES held ns)

  abbrev counted : List ℕ → List Need → ℕ
  counted held ns = tries_from (may_have t) held_by ENTRIES held ns

  -- no need is left
  pub none_left : (held : List ℕ) (at : ℕ) (ns : List Need) → length ns < 1 → Some (replicate 8 255) ≡ found at held ns
  none_left held at [] h = no_need_lem (may_have t) held_by ENTRIES held at
  none_left held at (n ∷ ns) h = absurd (omega arith)

  pub none_left_tries : (held : List ℕ) (ns : List Need) → length ns < 1 → 0 ≡ counted held ns
  none_left_tries held [] h = no_need_tries (may_have t) held_by ENTRIES held 0
  none_left_tries held (n ∷ ns) h = absurd (omega arith)

-- the first need, and those after it
pub first_left : (ns : List Need) (d : Need) → 1 ≤ length ns → ns ≡ get_or ns 0 d ∷ take (length ns - 1) (drop 1 ns)
first_left [] d h = absurd (omega arith)
first_left (n ∷ ns) d h =
    let others : length (n ∷ ns) - 1 ≡ length ns = omega arith in
    rw (others, take_all (length ns) ns (omega arith)) refl

-- the need n at `at`, with the needs ns after it
module _ (t : Table) (held : List ℕ) (n : Need) (ns : List Need) (at : ℕ) where
  -- before the turn of e
  unfoldable pub Turn : ℕ → List (std.Option Failure) → ℕ → Type 0
  Turn past noted e = Left (may_have t) held_by ENTRIES held n ns at past e × AllNoted t held n ns noted

  pub starts : Turn 0 (replicate ENTRIES None) 0
  unfolding Turn
  starts = (turn_starts (may_have t) held_by ENTRIES held n ns at, none_noted t held n ns)

  module _ (past : ℕ) (noted : List (std.Option Failure)) (e : ℕ) (turn : Turn past noted e) where
    -- no entry is left
    pub ends : ENTRIES ≤ e → None ≡ found t at held (n ∷ ns)
    unfolding Turn
    ends = turn_ends (may_have t) held_by ENTRIES held n ns at past e turn.0

    pub ends_tries : ENTRIES ≤ e → past ≡ counted t held (n ∷ ns)
    unfolding Turn
    ends_tries = turn_ends_tries (may_have t) held_by ENTRIES held n ns at past e turn.0

    module _ (low : e < ENTRIES) (answer : Bool) (said : answer ≡ may_have t held n e) where
      -- the need may not have e
      pub not_had : answer ≡ false → Turn past noted (e + 1)
      unfolding Turn
      not_had q = (not_given_goes (may_have t) held_by ENTRIES held n ns at past e turn.0 low (sym said ∙ q), turn.1)

      module _ (had : answer ≡ true) where
        given : may_have t held n e ≡ true
        given = sym said ∙ had

        -- so many tries fit
        fit : (made : ℕ) → made ≡ after_of (may_have t) held_by ENTRIES held n ns at e → length (n ∷ ns) ≤ 8 → Fits w32 (past + (1 + made))
        unfolding Turn
        fit made count k =
            omega (
              arith,
              turn_room (may_have t) held_by ENTRIES held n ns at past e turn.0 low given made count,
              place_limit t held (n ∷ ns) k,
            )

        -- it fails as one that is noted did, and is not searched
        module _ (long : length held ≡ ENTRIES) (again : ℕ) (like : FailedLike t ns (take e noted) (is_idle t held n ns e) e again) where
          fails : (rest_of (may_have t) held_by ENTRIES held n ns at e ≡ none) × (after_of (may_have t) held_by ENTRIES held n ns at e ≡ again)
          unfolding Turn
          fails = like_fails t held n ns noted turn.1 long e low given again like

          pub skip_all : length (n ∷ ns) ≤ 8 → Fits w32 (past + (1 + again))
          skip_all = fit again (sym fails.1)

          pub skipped : Turn (past + (1 + again)) noted (e + 1)
          unfolding Turn
          skipped = (
            not_found_goes (may_have t) held_by ENTRIES held n ns at past e turn.0 low given again (sym fails.1) (no_entry_left (at + 1) (rest_of (may_have t) held_by ENTRIES held n ns at e) fails.0),
            turn.1,
          )

        -- the needs after it are searched, where the entry is marked with its net
        module _ (mine : ℕ) (own : mine ≡ holder n) (way : std.Option (List ℕ)) (made : ℕ) (way_is : way ≡ found t (at + 1) (set held e mine) ns)
            (tries_are : made ≡ counted t (set held e mine) ns) where
          marked : set held e mine ≡ held_by held n e
          marked = ap (set held e) own

          way_after : way ≡ found t (at + 1) (held_by held n e) ns
          way_after = way_is ∙ ap (λ (h : List ℕ). found t (at + 1) h ns) marked

          tries_after : made ≡ counted t (held_by held n e) ns
          tries_after = tries_are ∙ ap (λ (h : List ℕ). counted t h ns) marked

          pub try_all : length (n ∷ ns) ≤ 8 → Fits w32 (past + (1 + made))
          try_all = fit made tries_after

          -- they have theirs
          pub stops : (w : List ℕ) → way ≡ Some w → Some (set w at e) ≡ found t at held (n ∷ ns)
          unfolding Turn
          stops w is = found_stops (may_have t) held_by ENTRIES held n ns at past e turn.0 low given w (sym is ∙ way_after)

          pub stops_tries : (w : List ℕ) → way ≡ Some w → past + (1 + made) ≡ counted t held (n ∷ ns)
          unfolding Turn
          stops_tries w is = found_stops_tries (may_have t) held_by ENTRIES held n ns at past e turn.0 low given made tries_after w (sym is ∙ way_after)

          -- they have nothing, and that is noted
          pub failed : way ≡ None → (idle : Bool) → idle ≡ is_idle t held n ns e → Turn (past + (1 + made)) (set noted e (Some (record { idle = idle; tries = made }))) (e + 1)
          unfolding Turn
          failed f idle is =
              let none_found : None ≡ found t (at + 1) (held_by held n e) ns = sym f ∙ way_after in (
                not_found_goes (may_have t) held_by ENTRIES held n ns at past e turn.0 low given made tries_after none_found,
                noted_next t held n ns noted turn.1 e (record { idle = idle; tries = made }) low given is
                    (found_none (at + 1) (rest_of (may_have t) held_by ENTRIES held n ns at e) none_found) tries_after,
              )

pub ruleset placing = (none_left, none_left_tries, first_left, starts, ends, ends_tries, not_had, skip_all, skipped, try_all, stops, stops_tries, failed)
