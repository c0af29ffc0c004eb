-- The loop of `place` on lists: what holds before each turn, and one law for each way out of a turn, for what is found and for the tries. What may be
-- given is a parameter, as it is of the search. Assumes nothing.
use Prim.Native.Nat.{ℕ, suc, ◌+◌, ◌-◌, ◌<◌, ◌≤◌}
use mathlib.Core.Path.{◌≡◌, refl, sym, ap, ◌∙◌}
use mathlib.Core.Bool.{Bool, true, false}
use mathlib.Core.List.{List, [], ◌∷◌}
use mathlib.Core.Option.{Option, none, some}
use native.Mathlib.Numerals.{add-one}
use native.Mathlib.Nat.{zero-add}
use native.Mathlib.Omega.{arith}
use lib.ListN.{set, replicate}
use Rattle.std.specs.Prelude.{Some, None}
use Rattle.route.specs.passes.Search.{pick, search_from, spent, tally, tries_from}
use Rattle.route.specs.passes.Partial.{routed_from}
use Rattle.route.proofs.Steps.{pick_step, pick_end, found_none, not_given, not_found, is_found, search_start, search_end, no_entry_left}

-- ---- the tries of one entry: it may not be given, the other needs find nothing, or they find their entries
module _ (at : ℕ) (b : Bool) (here later : ℕ) where
  none_spent : (found : Option (List ℕ)) → b ≡ false → spent b found here later ≡ later
  none_spent found p = rw p refl

  module _ (given : b ≡ true) where
    room_spent : (found : Option (List ℕ)) → suc here ≤ spent b found here later
    room_spent none = rw given (omega arith)
    room_spent (some w) = rw given (omega arith)

    all_spent : (found : Option (List ℕ)) → None ≡ routed_from at found → spent b found here later ≡ suc here + later
    all_spent found q = rw (given, found_none at found q) refl

    last_spent : (found : Option (List ℕ)) (way : List ℕ) → Some way ≡ routed_from at found → spent b found here later ≡ suc here
    unfolding routed_from
    last_spent none way q = cc
    last_spent (some w) way q = rw given refl

-- no need is left
module _ {S N : Type 0} (ok : S → N → ℕ → Bool) (next : S → N → ℕ → S) (size : ℕ) (s : S) (at : ℕ) where
  pub no_need_lem : Some (replicate 8 255) ≡ routed_from at (search_from ok next size s [])
  no_need_lem = search_end ok next size s at

  pub no_need_tries : 0 ≡ tries_from ok next size s []
  unfolding tries_from
  no_need_tries = refl

-- ---- the entries of the need n at `at`, with the needs ns after it, in the state s
module _ {S N : Type 0} (ok : S → N → ℕ → Bool) (next : S → N → ℕ → S) (size : ℕ) (s : S) (n : N) (ns : List N) (at : ℕ) where
  -- what the needs after it find with each entry, and with how many tries
  abbrev pub rest_of : ℕ → Option (List ℕ)
  rest_of e = search_from ok next size (next s n e) ns

  abbrev pub after_of : ℕ → ℕ
  after_of e = tries_from ok next size (next s n e) ns

  -- what is found in all, and with how many tries
  abbrev pub found_of : Option (List ℕ)
  found_of = search_from ok next size s (n ∷ ns)

  abbrev pub count_of : ℕ
  count_of = tries_from ok next size s (n ∷ ns)

  -- the same with the entries from e on
  abbrev pub pick_of : ℕ → Option (List ℕ)
  pick_of e = pick (ok s n) rest_of (size - e) e

  abbrev pub tally_of : ℕ → ℕ
  tally_of e = tally (ok s n) rest_of after_of (size - e) e

  -- before the turn of e: what is found is what the entries from e on find, and `past` tries were made
  abbrev pub Left : ℕ → ℕ → Type 0
  Left past e = (found_of ≡ pick_of e) × (count_of ≡ past + tally_of e)

  -- the first turn
  tries_start : count_of ≡ tally_of 0
  unfolding tries_from
  tries_start =
      let all : size - 0 ≡ size = omega arith in
      rw all refl

  pub turn_starts : Left 0 0
  turn_starts = (search_start ok next size s n ns, tries_start ∙ sym (zero-add (tally_of 0)))

  module _ (past e : ℕ) (left : Left past e) where
    -- no entry is left
    pub turn_ends : size ≤ e → None ≡ routed_from at found_of
    turn_ends h = no_entry_left at found_of (left.0 ∙ pick_end (ok s n) rest_of size e h)

    pub turn_ends_tries : size ≤ e → past ≡ count_of
    unfolding tally
    turn_ends_tries h =
        let count : size - e ≡ 0 = omega arith in
        let none_left : tally_of e ≡ 0 = rw count refl in
        omega (arith, left.1)

    -- e is tried, and then those from e + 1 on
    module _ (low : e < size) where
      tries_step : count_of ≡ past + spent (ok s n e) (rest_of e) (after_of e) (tally_of (e + 1))
      unfolding tally
      tries_step =
          let count : size - e ≡ suc (size - (e + 1)) = omega arith in
          left.1 ∙ rw (count, add-one e) refl

      pub not_given_goes : ok s n e ≡ false → Left past (e + 1)
      not_given_goes p = (
        left.0 ∙ pick_step (ok s n) rest_of size e low ∙ not_given at (ok s n e) e (pick_of (e + 1)) (rest_of e) p,
        tries_step ∙ ap (λ (k : ℕ). past + k) (none_spent at (ok s n e) (after_of e) (tally_of (e + 1)) (rest_of e) p),
      )

      module _ (given : ok s n e ≡ true) where
        -- the tries after e are those of the needs after it
        pub turn_room : (made : ℕ) → made ≡ after_of e → past + (1 + made) ≤ count_of
        turn_room made counted = omega (arith, tries_step, counted, room_spent at (ok s n e) (after_of e) (tally_of (e + 1)) given (rest_of e))

        -- they find nothing
        pub not_found_goes : (made : ℕ) → made ≡ after_of e → None ≡ routed_from (at + 1) (rest_of e) → Left (past + (1 + made)) (e + 1)
        not_found_goes made counted q = (
          left.0 ∙ pick_step (ok s n) rest_of size e low ∙ not_found (at + 1) (ok s n e) e (pick_of (e + 1)) (rest_of e) q,
          omega (arith, tries_step, counted, all_spent (at + 1) (ok s n e) (after_of e) (tally_of (e + 1)) given (rest_of e) q),
        )

        -- they find theirs
        pub found_stops : (way : List ℕ) → Some way ≡ routed_from (at + 1) (rest_of e) → Some (set way at e) ≡ routed_from at found_of
        found_stops way q =
            is_found at (ok s n e) e (pick_of (e + 1)) (rest_of e) way given q
            ∙ ap (routed_from at) (sym (left.0 ∙ pick_step (ok s n) rest_of size e low))

        pub found_stops_tries : (made : ℕ) → made ≡ after_of e → (way : List ℕ) → Some way ≡ routed_from (at + 1) (rest_of e) → past + (1 + made) ≡ count_of
        found_stops_tries made counted way q =
            omega (arith, tries_step, counted, last_spent (at + 1) (ok s n e) (after_of e) (tally_of (e + 1)) given (rest_of e) way q)
