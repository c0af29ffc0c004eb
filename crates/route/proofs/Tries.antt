-- The tries that the search makes are those of the definition. What may be given is a parameter, as it is of the search: of all short lists, those
-- that it may give to the first needs and that stand at or before what it finds are one more than its tries, the empty list being one of them.
-- Tables that serve the same have the same tries. Assumes nothing.
use Prim.Native.Nat.{ℕ, zero, suc, ◌+◌, ◌<◌, ◌≤◌}
use mathlib.Core.Path.{◌≡◌, refl, sym, ap, ◌∙◌}
use mathlib.Core.Bool.{Bool, true, false, ◌&&◌, true≢false}
use mathlib.Core.List.{List, [], ◌∷◌, map}
use mathlib.Core.Option.{Option, none, some}
use native.Mathlib.Nat.{zero-add}
use native.Mathlib.Omega.{arith}
use lib.ListN.{length, take, length-append}
use borrow.Author.Tests.{eq-eqb, ne_eqb, lt-ltb, le-ltb}
use Rattle.sheet.specs.Lists.{Every, concat_map, filterb, from}
use Rattle.sheet.proofs.Laws.{by_test, same_truth, and_parts}
use Rattle.sheet.proofs.Lists.{filter-append, filter_same, count_map}
use Rattle.entries.specs.declared.Need.{Need}
use Rattle.entries.specs.Table.{Table, serves}
use Rattle.route.specs.Way.{fits_all, is_way, earliest_way}
use Rattle.route.specs.Tries.{is_partial_way, at_or_before, counts, short_lists, tried_ways, tries}
use Rattle.route.specs.passes.Search.{attempt, pick, search_from, spent, tally, tries_from, held_by, found_way, tries_made}
use Rattle.entries.specs.passes.Entries.{may_have}
use Rattle.route.proofs.FirstGiven.{Given}
use Rattle.route.proofs.Ways.{served_low, from_start, to_way, none_held}
use Rattle.route.specs.Served.{SameServed}
use Rattle.route.proofs.AllWays.{is_way_lem, way_is, found_earliest, same_earliest}

-- ---- how many lists pass a test, by their first entry
-- the lists of l with one of the k entries from e on in front
abbrev pub begun : List (List ℕ) → ℕ → ℕ → List (List ℕ)
begun l k e = concat_map (λ x. map (λ v. x ∷ v) l) (from e k)

module _ (p : List ℕ → Bool) where
  -- those that begin with e, and those that begin later
  pub begun_step : (l : List (List ℕ)) (k e : ℕ)
      → length (filterb p (begun l (suc k) e)) ≡ length (filterb (λ v. p (e ∷ v)) l) + length (filterb p (begun l k (suc e)))
  begun_step l k e =
      ap length (filter-append p (map (λ v. e ∷ v) l) (begun l k (suc e)))
      ∙ length-append (filterb p (map (λ v. e ∷ v) l)) (filterb p (begun l k (suc e)))
      ∙ ap (λ (m : ℕ). m + length (filterb p (begun l k (suc e)))) (count_map (λ v. e ∷ v) p l)

none_pass : (p : List ℕ → Bool) → ((v : List ℕ) → p v ≡ false) → (l : List (List ℕ)) → length (filterb p l) ≡ 0
none_pass p h [] = refl
none_pass p h (v ∷ l) = rw (h v) (none_pass p h l)

pub none_begun : (p : List ℕ → Bool) (l : List (List ℕ)) (k e : ℕ) → ((x : ℕ) (v : List ℕ) → e ≤ x → p (x ∷ v) ≡ false)
    → length (filterb p (begun l k e)) ≡ 0
none_begun p l zero e h = refl
none_begun p l (suc k) e h =
    let here = none_pass (λ v. p (e ∷ v)) (λ v. h e v (omega arith)) l in
    let later = none_begun p l k (suc e) (λ x v m. h x v (omega arith)) in
    begun_step p l k e ∙ omega arith

-- the same by two tests that agree on all lists but the empty one
begun_same : (p q : List ℕ → Bool) → ((x : ℕ) (v : List ℕ) → p (x ∷ v) ≡ q (x ∷ v)) → (l : List (List ℕ)) (k e : ℕ)
    → length (filterb p (begun l k e)) ≡ length (filterb q (begun l k e))
begun_same p q h l zero e = refl
begun_same p q h l (suc k) e =
    let here = ap length (filter_same (λ v. p (e ∷ v)) (λ v. q (e ∷ v)) (h e) l) in
    let later = begun_same p q h l k (suc e) in
    begun_step p l k e ∙ (let s = begun_step q l k e in omega arith)

-- ---- what counts
pub empty_counts : (o : Option (List ℕ)) → counts o [] ≡ true
unfolding at_or_before
empty_counts none = refl
empty_counts (some w) = refl

-- what `pick` finds begins with one of its entries
abbrev From : ℕ → Option (List ℕ) → Type 0
From e none = Unit
From e (some []) = ⊥
From e (some (x ∷ w)) = e ≤ x

from_before : (e : ℕ) (o : Option (List ℕ)) → From (suc e) o → From e o
from_before e none h = tt
from_before e (some []) h = h
from_before e (some (x ∷ w)) h = omega arith

attempt_from : (b : Bool) (found : Option (List ℕ)) (e : ℕ) (other : Option (List ℕ)) → From (suc e) other → From e (attempt b found e other)
attempt_from true (some w) e other h = omega arith
attempt_from true none e other h = from_before e other h
attempt_from false found e other h = from_before e other h

pick_from : (ok : ℕ → Bool) (rest : ℕ → Option (List ℕ)) (k e : ℕ) → From e (pick ok rest k e)
unfolding pick
pick_from ok rest zero e = tt
pick_from ok rest (suc k) e = attempt_from (ok e) (rest e) e (pick ok rest k (suc e)) (pick_from ok rest k (suc e))

-- a list that begins with e counts where the answer begins later
sooner_counts : (e : ℕ) (v : List ℕ) (o : Option (List ℕ)) → From (suc e) o → counts o (e ∷ v) ≡ true
unfolding at_or_before
sooner_counts e v none h = refl
sooner_counts e v (some []) h = absurd h
sooner_counts e v (some (x ∷ w)) h = rw (lt-ltb e x h) refl

-- as its rest does where the answer begins with e too
equal_counts : (e : ℕ) (v w : List ℕ) → at_or_before (e ∷ v) (e ∷ w) ≡ at_or_before v w
unfolding at_or_before
equal_counts e v w = rw (le-ltb e e (omega arith), eq-eqb e e refl) refl

-- and not at all where the answer began before
later_counts : (e x : ℕ) (v w : List ℕ) → e < x → at_or_before (x ∷ v) (e ∷ w) ≡ false
unfolding at_or_before
later_counts e x v w h = rw (le-ltb x e (omega arith), ne_eqb x e (λ q. omega arith)) refl

and_false : (b c : Bool) → c ≡ false → b && c ≡ false
and_false true c q = q
and_false false c q = refl

-- ---- one need: M passes the lists that begin with an entry that is ok and go on as B says
module _ (ok : ℕ → Bool) (rest : ℕ → Option (List ℕ)) (after : ℕ → ℕ) (B : ℕ → List ℕ → Bool) (M : List ℕ → Bool)
    (begins : (x : ℕ) (v : List ℕ) → M (x ∷ v) ≡ ok x && B x v) (l : List (List ℕ))
    (ones : (x : ℕ) → length (filterb (λ v. B x v && counts (rest x) v) l) ≡ suc (after x)) where
  -- of the lists ls, those that pass M and count with the answer o
  abbrev counted : Option (List ℕ) → List (List ℕ) → ℕ
  counted o ls = length (filterb (λ v. M v && counts o v) ls)

  -- entry e, and the entries after it, whose answer is `other`
  counted_step : (k e : ℕ) (b : Bool) → ok e ≡ b → (found : Option (List ℕ)) → rest e ≡ found → (other : Option (List ℕ)) → From (suc e) other
      → (later : ℕ) → counted other (begun l k (suc e)) ≡ later
      → counted (attempt b found e other) (begun l (suc k) e) ≡ spent b found (after e) later
  counted_step k e false q found r other h later g =
      let here = none_pass (λ v. M (e ∷ v) && counts other (e ∷ v)) (λ v. rw (begins e v, q) refl) l in
      begun_step (λ v. M v && counts other v) l k e ∙ omega arith
  counted_step k e true q none r other h later g =
      let here =
      ap length (filter_same (λ v. M (e ∷ v) && counts other (e ∷ v)) (λ v. B e v && counts (rest e) v)
      (λ v. rw (begins e v, q, sooner_counts e v other h, r) refl) l)
      ∙ ones e in
      begun_step (λ v. M v && counts other v) l k e ∙ omega arith
  counted_step k e true q (some w) r other h later g =
      let here =
      ap length (filter_same (λ v. M (e ∷ v) && at_or_before (e ∷ v) (e ∷ w)) (λ v. B e v && counts (rest e) v)
      (λ v. rw (begins e v, q, equal_counts e v w, r) refl) l)
      ∙ ones e in
      let none-later =
      none_begun (λ v. M v && at_or_before v (e ∷ w)) l k (suc e)
      (λ x v m. and_false (M (x ∷ v)) (at_or_before (x ∷ v) (e ∷ w)) (later_counts e x v w m)) in
      begun_step (λ v. M v && at_or_before v (e ∷ w)) l k e ∙ omega arith

  pub counted_tally : (k e : ℕ) → counted (pick ok rest k e) (begun l k e) ≡ tally ok rest after k e
  unfolding pick tally
  counted_tally zero e = refl
  counted_tally (suc k) e =
      counted_step k e (ok e) refl (rest e) refl (pick ok rest k (suc e)) (pick_from ok rest k (suc e)) (tally ok rest after k (suc e))
      (counted_tally k (suc e))

-- ---- all needs
-- two tests of short lists that differ on the empty list alone
pub one_more_lem : (p q : List ℕ → Bool) → p [] ≡ false → q [] ≡ true → ((x : ℕ) (v : List ℕ) → p (x ∷ v) ≡ q (x ∷ v)) → (size k : ℕ)
    → length (filterb q (short_lists size k)) ≡ suc (length (filterb p (short_lists size k)))
unfolding short_lists
one_more_lem p q f g h size zero = rw (f, g) refl
one_more_lem p q f g h size (suc k) = rw (f, g) (ap suc (sym (begun_same p q h (short_lists size k) size 0)))

module _ {S N : Type 0} (ok : S → N → ℕ → Bool) (next : S → N → ℕ → S) where
  -- the lists that may be given to the first needs, entry by entry
  abbrev pub may_begin : S → List N → List ℕ → Bool
  may_begin s ns [] = true
  may_begin s [] (e ∷ v) = false
  may_begin s (n ∷ ns) (e ∷ v) = ok s n e && may_begin (next s n e) ns v

  module _ (size : ℕ) where
    pub begin_tries : (s : S) (ns : List N)
        → length (filterb (λ v. may_begin s ns v && counts (search_from ok next size s ns) v) (short_lists size (length ns))) ≡ suc (tries_from ok next size s ns)
    unfolding search_from tries_from short_lists at_or_before
    begin_tries s [] = refl
    begin_tries s (n ∷ ns) =
        rw (empty_counts (search_from ok next size s (n ∷ ns)))
        (ap suc (counted_tally (ok s n) (λ e. search_from ok next size (next s n e) ns) (λ e. tries_from ok next size (next s n e) ns)
        (λ e. may_begin (next s n e) ns) (may_begin s (n ∷ ns)) (λ x v. refl) (short_lists size (length ns))
        (λ x. begin_tries (next s n x) ns) size 0))

    -- the same without the empty list
    pub search_tries : (s : S) (ns : List N) (P : List ℕ → Bool) → P [] ≡ false → ((x : ℕ) (v : List ℕ) → P (x ∷ v) ≡ may_begin s ns (x ∷ v))
        → length (filterb (λ v. P v && counts (search_from ok next size s ns) v) (short_lists size (length ns))) ≡ tries_from ok next size s ns
    search_tries s ns P f h =
        let o = search_from ok next size s ns in
        let more =
        one_more_lem (λ v. P v && counts o v) (λ v. may_begin s ns v && counts o v) (rw f refl) (empty_counts o) (λ x v. rw (h x v) refl) size (length ns) in
        omega (arith, begin_tries s ns)

    -- to be given so is to be given to the first needs only
    pub begin_given : ((s : S) (n : N) (e : ℕ) → ok s n e ≡ true → e < size) → (s : S) (ns : List N) (v : List ℕ) → may_begin s ns v ≡ true
        → Given ok next size s (take (length v) ns) v
    begin_given low s ns [] h = tt
    begin_given low s [] (e ∷ v) h = absurd (true≢false (sym h))
    begin_given low s (n ∷ ns) (e ∷ v) h =
        let parts = and_parts (ok s n e) (may_begin (next s n e) ns v) h in
        (low s n e parts.0, parts.0, begin_given low (next s n e) ns v parts.1)

    pub given_begin : (s : S) (ns : List N) (v : List ℕ) → Given ok next size s (take (length v) ns) v → may_begin s ns v ≡ true
    given_begin s ns [] g = refl
    given_begin s [] (e ∷ v) g = absurd g
    given_begin s (n ∷ ns) (e ∷ v) g = rw g.1 (given_begin (next s n e) ns v g.2)

-- ---- the tries of a LAB
module _ (t : Table) (ns : List Need) where
  partial_begin : (x : ℕ) (v : List ℕ) → is_partial_way t ns (x ∷ v) ≡ may_begin (may_have t) held_by (none_held t) ns (x ∷ v)
  unfolding is_partial_way
  partial_begin x v =
      let ms = take (length (x ∷ v)) ns in
      same_truth (is_partial_way t ns (x ∷ v)) (may_begin (may_have t) held_by (none_held t) ns (x ∷ v))
      (λ h. given_begin (may_have t) held_by (length t) (none_held t) ns (x ∷ v) (from_start t ms (x ∷ v) (is_way_lem t ms (x ∷ v) h)))
      (λ h. way_is t ms (x ∷ v) (to_way t ms (x ∷ v) (begin_given (may_have t) held_by (length t) low (none_held t) ns (x ∷ v) h)))
    where
      low : (held : List ℕ) (n : Need) (e : ℕ) → may_have t held n e ≡ true → e < length t
      low held n e q = served_low t e n.role (and_parts (serves t e n.role) _ q).0

  -- M-106: THE SEARCH MAKES THESE TRIES
  pub made_tries : tries_made t ns ≡ tries t ns
  unfolding tries_made found_way tries tried_ways is_partial_way
  made_tries =
      let found : search_from (may_have t) held_by (length t) (none_held t) ns ≡ earliest_way t ns = found_earliest t ns in
      sym (rw found at (search_tries (may_have t) held_by (length t) (none_held t) ns (is_partial_way t ns) refl partial_begin))

pub no_tries : (t : Table) → tries t [] ≡ 0
unfolding tries tried_ways short_lists is_partial_way
no_tries t = refl

-- ---- the lists that pass a test are the same among those of two sizes, where each has only entries below both
module _ (m n : ℕ) where
  abbrev pub Both : ℕ → Type 0
  Both x = (x < m) × (x < n)

  -- a list that begins with an entry that is not below both does not pass
  above_fails : (p : List ℕ → Bool) → ((v : List ℕ) → p v ≡ true → Every Both v) → (x : ℕ) (v : List ℕ) → (Both x → ⊥) → p (x ∷ v) ≡ false
  above_fails p low x v h = by_test (p (x ∷ v)) (λ q. absurd (h (low (x ∷ v) q).0)) (λ q. q)

  sizes_begun : (p : List ℕ → Bool) → ((v : List ℕ) → p v ≡ true → Every Both v) → (l l' : List (List ℕ))
      → ((x : ℕ) → length (filterb (λ v. p (x ∷ v)) l) ≡ length (filterb (λ v. p (x ∷ v)) l')) → (j k e : ℕ) → e + j ≡ m → e + k ≡ n
      → length (filterb p (begun l j e)) ≡ length (filterb p (begun l' k e))
  sizes_begun p low l l' h zero zero e a b = refl
  sizes_begun p low l l' h zero (suc k) e a b = sym (none_begun p l' (suc k) e (λ x v g. above_fails p low x v (λ c. let d = c.0 in omega arith)))
  sizes_begun p low l l' h (suc j) zero e a b = none_begun p l (suc j) e (λ x v g. above_fails p low x v (λ c. let d = c.1 in omega arith))
  sizes_begun p low l l' h (suc j) (suc k) e a b =
      let later = sizes_begun p low l l' h j k (suc e) (omega arith) (omega arith) in
      let here = h e in
      begun_step p l j e ∙ (let s = begun_step p l' k e in omega arith)

  pub sizes_same : (k : ℕ) (p : List ℕ → Bool) → ((v : List ℕ) → p v ≡ true → Every Both v)
      → length (filterb p (short_lists m k)) ≡ length (filterb p (short_lists n k))
  unfolding short_lists
  sizes_same zero p low = refl
  sizes_same (suc k) p low =
      let longer =
      sizes_begun p low (short_lists m k) (short_lists n k) (λ x. sizes_same k (λ v. p (x ∷ v)) (λ v q. (low (x ∷ v) q).1)) m n 0 (zero-add m) (zero-add n) in
      by_test (p []) (λ q. rw q (ap suc longer)) (λ q. rw q longer)

-- ---- tables that serve the same
module _ (t u : Table) (same : SameServed t u) where
  way_same : (ns : List Need) (w : List ℕ) → is_way t ns w ≡ is_way u ns w
  unfolding is_way
  way_same [] [] = refl
  way_same [] (e ∷ w) = refl
  way_same (n ∷ ns) [] = refl
  way_same (n ∷ ns) (e ∷ w) = rw (same e n.role, way_same ns w) refl

  partial_same : (ns : List Need) (v : List ℕ) → is_partial_way t ns v ≡ is_partial_way u ns v
  unfolding is_partial_way
  partial_same ns [] = refl
  partial_same ns (e ∷ v) = way_same (take (length (e ∷ v)) ns) (e ∷ v)

  -- a way's entries are below either table's length
  way_low : (ns : List Need) (w : List ℕ) → is_way t ns w ≡ true → Every (Both (length t) (length u)) w
  unfolding is_way
  way_low [] [] q = tt
  way_low [] (e ∷ w) q = absurd (true≢false (sym q))
  way_low (n ∷ ns) [] q = absurd (true≢false (sym q))
  way_low (n ∷ ns) (e ∷ w) q =
      let parts = and_parts (serves t e n.role && fits_all n e ns w) (is_way t ns w) q in
      let here = (and_parts (serves t e n.role) (fits_all n e ns w) parts.0).0 in
      ((served_low t e n.role here, served_low u e n.role (sym (same e n.role) ∙ here)), way_low ns w parts.1)

  partial_low : (ns : List Need) (v : List ℕ) → is_partial_way t ns v ≡ true → Every (Both (length t) (length u)) v
  unfolding is_partial_way
  partial_low ns [] q = tt
  partial_low ns (e ∷ v) q = way_low (take (length (e ∷ v)) ns) (e ∷ v) q

  -- M-106: SAME ENTRIES SERVED, SAME TRIES
  pub same_tries : (ns : List Need) → tries t ns ≡ tries u ns
  unfolding tries tried_ways
  same_tries ns =
      sizes_same (length t) (length u) (length ns) (λ v. is_partial_way t ns v && counts (earliest_way t ns) v)
      (λ v q. partial_low ns v (and_parts (is_partial_way t ns v) (counts (earliest_way t ns) v) q).0)
      ∙ ap length (filter_same (λ v. is_partial_way t ns v && counts (earliest_way t ns) v) (λ v. is_partial_way u ns v && counts (earliest_way u ns) v)
      (λ v. rw (partial_same ns v, same_earliest t u same ns) refl) (short_lists (length u) (length ns)))
