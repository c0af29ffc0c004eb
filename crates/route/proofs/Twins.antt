-- Entries that are free and serve the same of the needs that are left: with one of them given, these needs find nothing exactly if they find nothing
-- with the other, and then in as many tries. What the one state allows is what the other allows with the two entries in each other's place, and where
-- nothing is found the tries are a sum over all entries. Assumes nothing.
use Prim.Native.Nat.{ℕ, zero, suc, ◌+◌, ◌<◌, ◌≤◌}
use mathlib.Core.Path.{◌≡◌, refl, sym, ap, ◌∙◌}
use mathlib.Core.Bool.{Bool, true, false, cond, true≢false}
use mathlib.Core.List.{List, [], ◌∷◌}
use mathlib.Core.Option.{Option, none, some}
use native.Mathlib.Nat.{zero-add}
use native.Mathlib.Omega.{arith}
use lib.ListN.{length, get_or, length-set}
use lib.Dec.{eqb}
use lib.Seq.{get_or-set_same, get_or-set_other}
use borrow.Author.Tests.{eqb-true, eqb-false, eq-eqb, ne_eqb}
use Rattle.sheet.specs.Lists.{Every, anyb}
use Rattle.sheet.proofs.Laws.{by_test, or_parts}
use Rattle.entries.specs.declared.Need.{Need}
use Rattle.entries.specs.Table.{Table, serves}
use Rattle.route.specs.passes.Search.{attempt, pick, search_from, tally, tries_from, held_by}
use Rattle.entries.specs.passes.Entries.{holder, may_have, differ_for}

-- ---- two numbers in each other's place
module _ (a b : ℕ) where
  abbrev pub swap : ℕ → ℕ
  swap x = cond (eqb x a) b (cond (eqb x b) a x)

  swap_first : swap a ≡ b
  swap_first = rw (eq-eqb a a refl) refl

  swap_second : swap b ≡ a
  swap_second = by_test (eqb b a) (λ q. rw q (eqb-true b a q)) (λ q. rw (q, eq-eqb b b refl) refl)

  swap_other : (x : ℕ) → (x ≡ a → ⊥) → (x ≡ b → ⊥) → swap x ≡ x
  swap_other x p q = rw (ne_eqb x a p, ne_eqb x b q) refl

  -- what is true of both and of every other number
  pub swap_cases : (P : ℕ → Type 0) → P a → P b → ((x : ℕ) → (x ≡ a → ⊥) → (x ≡ b → ⊥) → P x) → (x : ℕ) → P x
  swap_cases P p q r x =
      by_test (eqb x a) (λ s. let e = eqb-true x a s in rw e p)
      (λ s. by_test (eqb x b) (λ u. let e = eqb-true x b u in rw e q) (λ u. r x (eqb-false x a s) (eqb-false x b u)))

  pub swap_twice : (x : ℕ) → swap (swap x) ≡ x
  swap_twice =
      swap_cases (λ x. swap (swap x) ≡ x) (ap swap swap_first ∙ swap_second) (ap swap swap_second ∙ swap_first)
      (λ x p q. ap swap (swap_other x p q) ∙ swap_other x p q)

  pub swap_apart : (x y : ℕ) → (x ≡ y → ⊥) → swap x ≡ swap y → ⊥
  swap_apart x y h q = h (sym (swap_twice x) ∙ ap swap q ∙ swap_twice y)

  pub swap_low : (size : ℕ) → a < size → b < size → (x : ℕ) → x < size → swap x < size
  swap_low size h l =
      swap_cases (λ x. x < size → swap x < size) (λ k. rw swap_first l) (λ k. rw swap_second h) (λ x p q k. rw (swap_other x p q) k)

-- ---- a sum over the k numbers from e on
unfoldable pub sum_from : (ℕ → ℕ) → ℕ → ℕ → ℕ
sum_from g zero e = 0
sum_from g (suc k) e = g e + sum_from g k (suc e)

sum_same : (g h : ℕ → ℕ) (k e : ℕ) → ((x : ℕ) → e ≤ x → x < e + k → g x ≡ h x) → sum_from g k e ≡ sum_from h k e
unfolding sum_from
sum_same g h zero e s = refl
sum_same g h (suc k) e s = rw (s e (omega arith) (omega arith), sum_same g h k (suc e) (λ x l m. s x (omega arith) (omega arith))) refl

-- one term is another
abbrev put : (ℕ → ℕ) → ℕ → ℕ → ℕ → ℕ
put g a v x = cond (eqb x a) v (g x)

put_here : (g : ℕ → ℕ) (a v : ℕ) → put g a v a ≡ v
put_here g a v = rw (eq-eqb a a refl) refl

put_there : (g : ℕ → ℕ) (a v x : ℕ) → (x ≡ a → ⊥) → put g a v x ≡ g x
put_there g a v x h = rw (ne_eqb x a h) refl

sum_put : (g : ℕ → ℕ) (a v k e : ℕ) → e ≤ a → a < e + k → sum_from (put g a v) k e + g a ≡ sum_from g k e + v
unfolding sum_from
sum_put g a v zero e l m = absurd (omega arith)
sum_put g a v (suc k) e l m =
    by_test (eqb e a)
    (λ q.
    let p = eqb-true e a q in
    let rest = sum_same (put g a v) g k (suc e) (λ x h i. put_there g a v x (λ s. omega arith)) in
    let here : g e ≡ g a = rw p refl in
    rw (q, rest) (omega arith))
    (λ q.
    let other = eqb-false e a q in
    let rest = sum_put g a v k (suc e) (omega arith) (omega arith) in
    rw q (omega arith))

-- the terms of two numbers in each other's place
sum_swap : (g : ℕ → ℕ) (a b size : ℕ) → a < size → b < size → sum_from (λ x. g (swap a b x)) size 0 ≡ sum_from g size 0
sum_swap g a b size h l =
    by_test (eqb a b)
    (λ q.
    let p = eqb-true a b q in
    sum_same (λ x. g (swap a b x)) g size 0 (λ x m i.
    swap_cases a b (λ y. g (swap a b y) ≡ g y) (ap g (swap_first a b ∙ sym p)) (ap g (swap_second a b ∙ p)) (λ y s u. ap g (swap_other a b y s u)) x))
    (λ q. apart (eqb-false a b q))
  where
    -- both terms changed, one after the other
    first : ℕ → ℕ
    first = put g a (g b)

    apart : (a ≡ b → ⊥) → sum_from (λ x. g (swap a b x)) size 0 ≡ sum_from g size 0
    apart other =
        let both =
        sum_same (λ x. g (swap a b x)) (put first b (g a)) size 0 (λ x m i.
        swap_cases a b (λ y. g (swap a b y) ≡ put first b (g a) y)
        (ap g (swap_first a b) ∙ sym (put_there first b (g a) a other ∙ put_here g a (g b)))
        (ap g (swap_second a b) ∙ sym (put_here first b (g a)))
        (λ y s u. ap g (swap_other a b y s u) ∙ sym (put_there first b (g a) y u ∙ put_there g a (g b) y s)) x) in
        let kept : first b ≡ g b = put_there g a (g b) b (λ p. other (sym p)) in
        omega (arith, both, kept, sum_put first b (g a) size 0 (omega arith) (omega arith), sum_put g a (g b) size 0 (omega arith) (omega arith))

-- ---- where nothing is found
abbrev Nothing : (ℕ → Bool) → (ℕ → Option (List ℕ)) → ℕ → ℕ → Type 0
Nothing ok rest k e = (x : ℕ) → e ≤ x → x < e + k → ok x ≡ true → rest x ≡ none

attempt_none : (b : Bool) (found : Option (List ℕ)) (e : ℕ) (other : Option (List ℕ)) → attempt b found e other ≡ none → (b ≡ true → found ≡ none) × (other ≡ none)
attempt_none true (some w) e other h = let z : ◌≡◌ {A = ℕ} 0 1 = cc in absurd (omega arith)
attempt_none true none e other h = (λ q. refl, h)
attempt_none false found e other h = (λ q. absurd (true≢false (sym q)), h)

module _ (ok : ℕ → Bool) (rest : ℕ → Option (List ℕ)) where
  pick_nothing : (k e : ℕ) → pick ok rest k e ≡ none → Nothing ok rest k e
  unfolding pick
  pick_nothing zero e h x l m q = absurd (omega arith)
  pick_nothing (suc k) e h x l m q =
      let parts = attempt_none (ok e) (rest e) e (pick ok rest k (suc e)) h in
      by_test (eqb x e) (λ s. let p = eqb-true x e s in rw p (parts.0 (rw (← p) q)))
      (λ s. let other = eqb-false x e s in pick_nothing k (suc e) parts.1 x (omega arith) (omega arith) q)

  nothing_picked : (k e : ℕ) → Nothing ok rest k e → pick ok rest k e ≡ none
  unfolding pick
  nothing_picked zero e h = refl
  nothing_picked (suc k) e h =
      let later = nothing_picked k (suc e) (λ x l m. h x (omega arith) (omega arith)) in
      by_test (ok e) (λ q. rw (q, h e (omega arith) (omega arith) q, later) refl) (λ q. rw (q, later) refl)

  -- the tries are a sum: one for each entry that may be given, and those after it
  abbrev terms : (ℕ → ℕ) → ℕ → ℕ
  terms after x = cond (ok x) (suc (after x)) 0

  nothing_tally : (after : ℕ → ℕ) (k e : ℕ) → Nothing ok rest k e → tally ok rest after k e ≡ sum_from (terms after) k e
  unfolding tally sum_from
  nothing_tally after zero e h = refl
  nothing_tally after (suc k) e h =
      let later = nothing_tally after k (suc e) (λ x l m. h x (omega arith) (omega arith)) in
      by_test (ok e) (λ q. rw (q, h e (omega arith) (omega arith) q, later) refl) (λ q. rw (q, later) (sym (zero-add (sum_from (terms after) k (suc e)))))

-- one need: the other state may give it what this one may with a and b in each other's place, and the needs after it fail in the same way
module _ (a b size : ℕ) (low : a < size) (high : b < size) (okS okU : ℕ → Bool) (restS restU : ℕ → Option (List ℕ)) (afterS afterU : ℕ → ℕ)
    (same : (e : ℕ) → okU e ≡ okS (swap a b e))
    (fail : (e : ℕ) → e < size → restS (swap a b e) ≡ none → (restU e ≡ none) × (afterU e ≡ afterS (swap a b e)))
    (q : pick okS restS size 0 ≡ none) where
  fails : (e : ℕ) → e < size → okU e ≡ true → (restU e ≡ none) × (afterU e ≡ afterS (swap a b e))
  fails e l p =
      fail e l (pick_nothing okS restS size 0 q (swap a b e) (omega arith) (let m = swap_low a b size low high e l in omega arith) (sym (same e) ∙ p))

  nothing : Nothing okU restU size 0
  nothing e l m p = (fails e (omega arith) p).0

  term : (e : ℕ) → e < size → terms okU restU afterU e ≡ terms okS restS afterS (swap a b e)
  term e l =
      by_test (okU e) (λ p. let o : okS (swap a b e) ≡ true = sym (same e) ∙ p in rw (p, o, (fails e l p).1) refl)
      (λ p. let o : okS (swap a b e) ≡ false = sym (same e) ∙ p in rw (p, o) refl)

  twin_picks : pick okU restU size 0 ≡ none
  twin_picks = nothing_picked okU restU size 0 nothing

  twin_tallies : tally okU restU afterU size 0 ≡ tally okS restS afterS size 0
  twin_tallies =
      nothing_tally okU restU afterU size 0 nothing
      ∙ sum_same (terms okU restU afterU) (λ e. terms okS restS afterS (swap a b e)) size 0 (λ e l m. term e (omega arith))
      ∙ sum_swap (terms okS restS afterS) a b size low high
      ∙ sym (nothing_tally okS restS afterS size 0 (pick_nothing okS restS size 0 q))

-- ---- u allows the needs ns with a and b in each other's place what s allows them, as `Twin` has it
module _ {S N : Type 0} (ok : S → N → ℕ → Bool) (next : S → N → ℕ → S) (size a b : ℕ) (low : a < size) (high : b < size) (Twin : S → S → List N → Type 0)
    (same : (s u : S) (n : N) (ns : List N) → Twin s u (n ∷ ns) → (e : ℕ) → ok u n e ≡ ok s n (swap a b e))
    (after : (s u : S) (n : N) (ns : List N) → Twin s u (n ∷ ns) → (e : ℕ) → e < size → Twin (next s n (swap a b e)) (next u n e) ns) where
  pub twin_fails : (s u : S) (ns : List N) → Twin s u ns → search_from ok next size s ns ≡ none
      → (search_from ok next size u ns ≡ none) × (tries_from ok next size u ns ≡ tries_from ok next size s ns)
  unfolding search_from tries_from
  twin_fails s u [] h q = let z : ◌≡◌ {A = ℕ} 0 1 = cc in absurd (omega arith)
  twin_fails s u (n ∷ ns) h q = (
    twin_picks a b size low high (ok s n) (ok u n) (λ e. search_from ok next size (next s n e) ns) (λ e. search_from ok next size (next u n e) ns)
        (λ e. tries_from ok next size (next s n e) ns) (λ e. tries_from ok next size (next u n e) ns) (same s u n ns h)
        (λ e l. twin_fails (next s n (swap a b e)) (next u n e) ns (after s u n ns h e l)) q,
    twin_tallies a b size low high (ok s n) (ok u n) (λ e. search_from ok next size (next s n e) ns) (λ e. search_from ok next size (next u n e) ns)
        (λ e. tries_from ok next size (next s n e) ns) (λ e. tries_from ok next size (next u n e) ns) (same s u n ns h)
        (λ e l. twin_fails (next s n (swap a b e)) (next u n e) ns (after s u n ns h e l)) q,
  )

-- ---- held entries
module _ (t : Table) (a b : ℕ) where
  -- the need is served as it was
  abbrev ServedSo : Need → Type 0
  ServedSo m = (x : ℕ) → serves t (swap a b x) m.role ≡ serves t x m.role

  abbrev TwinFor : ℕ → List ℕ → List ℕ → List Need → Type 0
  TwinFor size held kept ns =
      (length held ≡ size) × (length kept ≡ size) × ((x : ℕ) → get_or kept x 0 ≡ get_or held (swap a b x) 0) × Every ServedSo ns

  twin_same : (size : ℕ) (held kept : List ℕ) (m : Need) (ns : List Need) → TwinFor size held kept (m ∷ ns) → (x : ℕ)
      → may_have t kept m x ≡ may_have t held m (swap a b x)
  twin_same size held kept m ns h x = rw (h.2 x, ← (h.3.0 x)) refl

  module _ (size : ℕ) (low : a < size) (high : b < size) where
    twin_after : (held kept : List ℕ) (m : Need) (ns : List Need) → TwinFor size held kept (m ∷ ns) → (e : ℕ) → e < size
        → TwinFor size (held_by held m (swap a b e)) (held_by kept m e) ns
    twin_after held kept m ns h e l = (length-set held (swap a b e) (holder m) ∙ h.0, length-set kept e (holder m) ∙ h.1, marks, h.3.1)
      where
        there : swap a b e < size
        there = swap_low a b size low high e l

        marks : (x : ℕ) → get_or (held_by kept m e) x 0 ≡ get_or (held_by held m (swap a b e)) (swap a b x) 0
        marks x =
            by_test (eqb x e)
            (λ q.
            let p = eqb-true x e q in
            let here = get_or-set_same kept e (holder m) 0 (let k = h.1 in omega arith) in
            let same = get_or-set_same held (swap a b e) (holder m) 0 (let k = h.0 in let i = there in omega arith) in
            rw p (here ∙ sym same))
            (λ q.
            let other = eqb-false x e q in
            get_or-set_other kept e x (holder m) 0 other
            ∙ h.2 x
            ∙ sym (get_or-set_other held (swap a b e) (swap a b x) (holder m) 0 (swap_apart a b x e other)))

    -- ---- the two entries are free, and serve the same of the needs ns
    module _ (held : List ℕ) (long : length held ≡ size) (free-a : get_or held a 0 ≡ 0) (free-b : get_or held b 0 ≡ 0) (n : Need) (ns : List Need)
        (alike : anyb (differ_for t a b) ns ≡ false) where
      served_both : (m : Need) → differ_for t a b m ≡ false → serves t a m.role ≡ serves t b m.role
      served_both m q =
          by_test (serves t a m.role) (λ p. by_test (serves t b m.role) (λ r. p ∙ sym r) (λ r. absurd (true≢false (rw (p, r) at q))))
          (λ p. p ∙ sym (rw p at q))

      served_so : (m : Need) → differ_for t a b m ≡ false → ServedSo m
      served_so m q =
          let both = served_both m q in
          swap_cases a b (λ x. serves t (swap a b x) m.role ≡ serves t x m.role) (rw (swap_first a b) (sym both)) (rw (swap_second a b) both)
          (λ x p r. rw (swap_other a b x p r) refl)

      every_so : (ms : List Need) → anyb (differ_for t a b) ms ≡ false → Every ServedSo ms
      every_so [] q = tt
      every_so (m ∷ ms) q = let parts = or_parts (differ_for t a b m) (anyb (differ_for t a b) ms) q in (served_so m parts.0, every_so ms parts.1)

      -- b given to n in place of a
      marked_so : (x : ℕ) → get_or (held_by held n b) x 0 ≡ get_or (held_by held n a) (swap a b x) 0
      marked_so x =
          by_test (eqb x b)
          (λ q.
          let p = eqb-true x b q in
          let here = get_or-set_same held b (holder n) 0 (let k = long in omega arith) in
          let there = get_or-set_same held a (holder n) 0 (let k = long in omega arith) in
          rw (p, swap_second a b) (here ∙ sym there))
          (λ q. other_mark (eqb-false x b q))
        where
          other_mark : (x ≡ b → ⊥) → get_or (held_by held n b) x 0 ≡ get_or (held_by held n a) (swap a b x) 0
          other_mark other =
              by_test (eqb x a)
              (λ q.
              let p = eqb-true x a q in
              let apart : b ≡ a → ⊥ = λ r. other (p ∙ sym r) in
              let here : get_or (held_by held n b) x 0 ≡ 0 = get_or-set_other held b x (holder n) 0 other ∙ ap (λ (k : ℕ). get_or held k 0) p ∙ free-a in
              let swapped : swap a b x ≡ b = ap (swap a b) p ∙ swap_first a b in
              let there : get_or (held_by held n a) b 0 ≡ 0 = get_or-set_other held a b (holder n) 0 apart ∙ free-b in
              rw swapped (here ∙ sym there))
              (λ q.
              let else-where = eqb-false x a q in
              rw (swap_other a b x else-where other)
              (get_or-set_other held b x (holder n) 0 other ∙ sym (get_or-set_other held a x (holder n) 0 else-where)))

      twins : TwinFor size (held_by held n a) (held_by held n b) ns
      twins = (length-set held a (holder n) ∙ long, length-set held b (holder n) ∙ long, marked_so, every_so ns alike)

      -- THE NEEDS AFTER IT FAIL WITH b AS THEY FAIL WITH a
      pub twins_fail : search_from (may_have t) held_by size (held_by held n a) ns ≡ none
          → (search_from (may_have t) held_by size (held_by held n b) ns ≡ none)
          × (tries_from (may_have t) held_by size (held_by held n b) ns ≡ tries_from (may_have t) held_by size (held_by held n a) ns)
      twins_fail =
          twin_fails (may_have t) held_by size a b low high (TwinFor size) (twin_same size) twin_after (held_by held n a) (held_by held n b) ns twins
