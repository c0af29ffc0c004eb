-- Entries that make no difference. States that allow the needs that are left the same have the same answer and the same tries; and to give a need an
-- entry that is its net's already, or that serves no later need of another net, changes nothing of what the needs after it may have. Assumes nothing.
use Prim.Native.Nat.{ℕ, zero, suc, ◌<◌}
use mathlib.Core.Path.{◌≡◌, refl, sym, ◌∙◌}
use mathlib.Core.Logic.{inl, inr}
use mathlib.Core.Bool.{Bool, true, false}
use mathlib.Core.List.{List, [], ◌∷◌}
use mathlib.Core.Option.{Option}
use native.Mathlib.Omega.{arith}
use lib.ListN.{length, get_or, set, length-set, get_or-eq_default}
use lib.Dec.{eqb, ltb}
use lib.Seq.{get_or-set_same, get_or-set_other}
use borrow.Author.Tests.{eqb-true, eqb-false, eq-eqb, ltb-true, ltb-false, not-true}
use Rattle.sheet.specs.Lists.{Every, anyb}
use Rattle.sheet.proofs.Laws.{by_test, or_parts}
use Rattle.entries.specs.declared.Need.{Need}
use Rattle.entries.specs.Table.{Table, serves, need_net}
use Rattle.route.specs.passes.Search.{pick, search_from, tally, tries_from, held_by, is_idle}
use Rattle.entries.specs.passes.Entries.{holder, may_have, serves_other}
use Rattle.route.proofs.Ways.{Open, open_test, same_mark}

-- ---- the same may be given, and the same is found after each entry
module _ (ok may : ℕ → Bool) (rest found : ℕ → Option (List ℕ)) (same : (e : ℕ) → ok e ≡ may e) (finds : (e : ℕ) → rest e ≡ found e) where
  pick_same : (k e : ℕ) → pick ok rest k e ≡ pick may found k e
  unfolding pick
  pick_same zero e = refl
  pick_same (suc k) e = rw (same e, finds e, pick_same k (suc e)) refl

  tally_same : (after made : ℕ → ℕ) → ((e : ℕ) → after e ≡ made e) → (k e : ℕ) → tally ok rest after k e ≡ tally may found made k e
  unfolding tally
  tally_same after made h zero e = refl
  tally_same after made h (suc k) e = rw (same e, finds e, h e, tally_same after made h k (suc e)) refl

-- ---- two states that allow the needs ns the same, as `Alike` has it
module _ {S N : Type 0} (ok : S → N → ℕ → Bool) (next : S → N → ℕ → S) (size : ℕ) (Alike : S → S → List N → Type 0)
    (same : (s u : S) (n : N) (ns : List N) → Alike s u (n ∷ ns) → (e : ℕ) → ok s n e ≡ ok u n e)
    (after : (s u : S) (n : N) (ns : List N) → Alike s u (n ∷ ns) → (e : ℕ) → Alike (next s n e) (next u n e) ns) where
  pub search_alike : (s u : S) (ns : List N) → Alike s u ns → search_from ok next size s ns ≡ search_from ok next size u ns
  unfolding search_from
  search_alike s u [] h = refl
  search_alike s u (n ∷ ns) h =
      pick_same (ok s n) (ok u n) (λ e. search_from ok next size (next s n e) ns) (λ e. search_from ok next size (next u n e) ns) (same s u n ns h)
      (λ e. search_alike (next s n e) (next u n e) ns (after s u n ns h e)) size 0

  pub tries_alike : (s u : S) (ns : List N) → Alike s u ns → tries_from ok next size s ns ≡ tries_from ok next size u ns
  unfolding tries_from
  tries_alike s u [] h = refl
  tries_alike s u (n ∷ ns) h =
      tally_same (ok s n) (ok u n) (λ e. search_from ok next size (next s n e) ns) (λ e. search_from ok next size (next u n e) ns) (same s u n ns h)
      (λ e. search_alike (next s n e) (next u n e) ns (after s u n ns h e)) (λ e. tries_from ok next size (next s n e) ns)
      (λ e. tries_from ok next size (next u n e) ns) (λ e. tries_alike (next s n e) (next u n e) ns (after s u n ns h e)) size 0

-- ---- held entries
-- where a mark is the same, so is what a need may have
pub marked_same : (t : Table) (held kept : List ℕ) (m : Need) (x : ℕ) → get_or held x 0 ≡ get_or kept x 0 → may_have t held m x ≡ may_have t kept m x
marked_same t held kept m x q = rw q refl

module _ (t : Table) where
  -- each of the needs may have the same
  abbrev Same : List ℕ → List ℕ → Need → Type 0
  Same held kept m = (x : ℕ) → may_have t held m x ≡ may_have t kept m x

  abbrev AlikeFor : List ℕ → List ℕ → List Need → Type 0
  AlikeFor held kept ns = (length held ≡ length kept) × Every (Same held kept) ns

  -- an entry that is given in both
  given_both : (held kept : List ℕ) (v e : ℕ) → length held ≡ length kept → get_or (set held e v) e 0 ≡ get_or (set kept e v) e 0
  given_both held kept v e l =
      by_test (ltb e (length held))
      (λ q.
      let low = ltb-true e (length held) q in
      get_or-set_same held e v 0 low ∙ sym (get_or-set_same kept e v 0 (omega arith)))
      (λ q.
      let high = ltb-false e (length held) q in
      get_or-eq_default (set held e v) 0 (omega (arith, length-set held e v))
      ∙ sym (get_or-eq_default (set kept e v) 0 (omega (arith, length-set kept e v))))

  module _ (held kept : List ℕ) (l : length held ≡ length kept) (n : Need) (e : ℕ) where
    same_after : (m : Need) → Same held kept m → Same (held_by held n e) (held_by kept n e) m
    same_after m h x =
        by_test (eqb x e)
        (λ q.
        let p = eqb-true x e q in
        let both : get_or (held_by held n e) x 0 ≡ get_or (held_by kept n e) x 0 = rw p (given_both held kept (holder n) e l) in
        marked_same t (held_by held n e) (held_by kept n e) m x both)
        (λ q.
        let other = eqb-false x e q in
        marked_same t (held_by held n e) held m x (get_or-set_other held e x (holder n) 0 other)
        ∙ h x
        ∙ sym (marked_same t (held_by kept n e) kept m x (get_or-set_other kept e x (holder n) 0 other)))

    every_after : (ns : List Need) → Every (Same held kept) ns → Every (Same (held_by held n e) (held_by kept n e)) ns
    every_after [] h = tt
    every_after (m ∷ ns) h = (same_after m h.0, every_after ns h.1)

    alike_after : (ns : List Need) → AlikeFor held kept ns → AlikeFor (held_by held n e) (held_by kept n e) ns
    alike_after ns h = (length-set held e (holder n) ∙ l ∙ sym (length-set kept e (holder n)), every_after ns h.1)

  -- ---- an entry that makes no difference
  module _ (held : List ℕ) (n : Need) (e : ℕ) (low : e < length held) (here : Open held n e) where
    -- m may have e after it was given to n exactly if it might before: its mark is no other, or it serves m and m is of the same net, or it does not
    same_entry : (m : Need) → (get_or held e 0 ≡ 0 → serves_other t n e m ≡ false) → may_have t (held_by held n e) m e ≡ may_have t held m e
    same_entry m other = by_mark here
      where
        now : get_or (held_by held n e) e 0 ≡ holder n
        now = get_or-set_same held e (holder n) 0 low

        one_net : need_net m ≡ need_net n → get_or held e 0 ≡ 0 → may_have t (held_by held n e) m e ≡ may_have t held m e
        one_net q f = rw (open_test t (held_by held n e) m e (inr (now ∙ same_mark n m (sym q))), open_test t held m e (inl f)) refl

        two_nets : eqb (need_net m) (need_net n) ≡ false → get_or held e 0 ≡ 0 → may_have t (held_by held n e) m e ≡ may_have t held m e
        two_nets q f = let none : serves t e m.role ≡ false = rw q at (other f) in rw none refl

        by_mark : Open held n e → may_have t (held_by held n e) m e ≡ may_have t held m e
        by_mark (inl f) = by_test (eqb (need_net m) (need_net n)) (λ q. one_net (eqb-true (need_net m) (need_net n) q) f) (λ q. two_nets q f)
        by_mark (inr f) = marked_same t (held_by held n e) held m e (now ∙ sym f)

    same_idle : (m : Need) → (get_or held e 0 ≡ 0 → serves_other t n e m ≡ false) → Same (held_by held n e) held m
    same_idle m other x =
        by_test (eqb x e) (λ q. let p = eqb-true x e q in rw p (same_entry m other))
        (λ q. marked_same t (held_by held n e) held m x (get_or-set_other held e x (holder n) 0 (eqb-false x e q)))

    every_idle : (ns : List Need) → (get_or held e 0 ≡ 0 → anyb (serves_other t n e) ns ≡ false) → Every (Same (held_by held n e) held) ns
    every_idle [] h = tt
    every_idle (m ∷ ns) h = (
      same_idle m (λ f. (or_parts (serves_other t n e m) (anyb (serves_other t n e) ns) (h f)).0),
      every_idle ns (λ f. (or_parts (serves_other t n e m) (anyb (serves_other t n e) ns) (h f)).1),
    )

    none_other : (ns : List Need) → is_idle t held n ns e ≡ true → get_or held e 0 ≡ 0 → anyb (serves_other t n e) ns ≡ false
    none_other ns h f = not-true (anyb (serves_other t n e) ns) (rw (eq-eqb (get_or held e 0) 0 f) at h)

    idle_alike : (ns : List Need) → is_idle t held n ns e ≡ true → AlikeFor (held_by held n e) held ns
    idle_alike ns h = (length-set held e (holder n), every_idle ns (none_other ns h))

    -- THE NEEDS AFTER IT FIND THE SAME, WITH AS MANY TRIES
    pub idle_finds : (size : ℕ) (ns : List Need) → is_idle t held n ns e ≡ true
        → search_from (may_have t) held_by size (held_by held n e) ns ≡ search_from (may_have t) held_by size held ns
    idle_finds size ns h =
        search_alike (may_have t) held_by size AlikeFor (λ s u k ks a. a.1.0) (λ s u k ks a x. alike_after s u a.0 k x ks (a.0, a.1.1))
        (held_by held n e) held ns (idle_alike ns h)

    pub idle_tries : (size : ℕ) (ns : List Need) → is_idle t held n ns e ≡ true
        → tries_from (may_have t) held_by size (held_by held n e) ns ≡ tries_from (may_have t) held_by size held ns
    idle_tries size ns h =
        tries_alike (may_have t) held_by size AlikeFor (λ s u k ks a. a.1.0) (λ s u k ks a x. alike_after s u a.0 k x ks (a.0, a.1.1))
        (held_by held n e) held ns (idle_alike ns h)
