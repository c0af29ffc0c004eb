-- The lists that the tries count are the partial ways at or before the answer: each of them is one, every one is among them, and they stand in
-- order, so that none is there twice; with eight needs and eight entries they are at most 19,173,960. Assumes nothing.
use Prim.Native.Nat.{ℕ, zero, suc, ◌+◌, ◌<◌, ◌≤◌}
use mathlib.Core.Path.{◌≡◌, refl, sym}
use mathlib.Core.Logic.{◌⊎◌, inl, inr, ⊎_elim}
use mathlib.Core.Bool.{Bool, true, ◌&&◌, or-true, true≢false}
use mathlib.Core.List.{List, [], ◌∷◌, ◌++◌, map}
use mathlib.Core.Option.{Option, none, some}
use native.Mathlib.Nat.{eq-or-lt_of_le}
use native.Mathlib.Omega.{arith}
use lib.ListN.{length, get_or, take, length-take}
use lib.Dec.{eqb, ltb}
use borrow.Author.Tests.{eqb-true, ltb-true, eq-eqb, lt-ltb}
use Rattle.sheet.specs.Lists.{concat_map, filterb, from}
use Rattle.sheet.proofs.Laws.{by_test, and_parts}
use Rattle.entries.specs.declared.Need.{Need}
use Rattle.entries.specs.Table.{Table, need_at}
use Rattle.route.specs.Way.{Way, earliest_way}
use Rattle.route.specs.Tries.{is_partial_way, at_or_before, counts, short_lists, tried_ways, PartialWay, Before, AtOrBefore, In, InOrder, TriesLaw}
use Rattle.route.proofs.Ways.{served_low}
use Rattle.route.proofs.AllWays.{is_way_lem, way_is}
use Rattle.route.proofs.Limit.{tries_most}

-- ---- the lists that pass a test
module _ (p : List ℕ → Bool) where
  filtered_in : (l : List (List ℕ)) (v : List ℕ) → In v (filterb p l) → In v l × (p v ≡ true)
  unfolding In
  filtered_in [] v m = absurd m
  filtered_in (w ∷ l) v m =
      by_test (p w)
      (λ e. ⊎_elim (λ q. (inl q, rw q e)) (λ k. let r = filtered_in l v k in (inr r.0, r.1)) (rw e at m))
      (λ e. let r = filtered_in l v (rw e at m) in (inr r.0, r.1))

  filtered_has : (l : List (List ℕ)) (v : List ℕ) → In v l → p v ≡ true → In v (filterb p l)
  unfolding In
  filtered_has [] v m h = m
  filtered_has (w ∷ l) v (inl q) h = rw (← q, h) (inl refl)
  filtered_has (w ∷ l) v (inr m) h = let r = filtered_has l v m h in by_test (p w) (λ e. rw e (inr r)) (λ e. rw e r)

  filtered_order : (l : List (List ℕ)) → InOrder l → InOrder (filterb p l)
  unfolding InOrder
  filtered_order [] h = tt
  filtered_order (w ∷ l) h =
      let r = filtered_order l h.1 in
      by_test (p w) (λ e. rw e (λ v m. h.0 v (filtered_in l v m).0, r)) (λ e. rw e r)

-- ---- one list of lists after another
joined_in : (l m : List (List ℕ)) (v : List ℕ) → In v (l ++ m) → In v l ⊎ In v m
unfolding In
joined_in [] m v k = inr k
joined_in (u ∷ l) m v (inl q) = inl (inl q)
joined_in (u ∷ l) m v (inr k) = ⊎_elim (λ r. inl (inr r)) (λ r. inr r) (joined_in l m v k)

joined_left : (l m : List (List ℕ)) (v : List ℕ) → In v l → In v (l ++ m)
unfolding In
joined_left [] m v k = absurd k
joined_left (u ∷ l) m v (inl q) = inl q
joined_left (u ∷ l) m v (inr k) = inr (joined_left l m v k)

joined_right : (l m : List (List ℕ)) (v : List ℕ) → In v m → In v (l ++ m)
unfolding In
joined_right [] m v k = k
joined_right (u ∷ l) m v k = inr (joined_right l m v k)

joined_order : (l m : List (List ℕ)) → InOrder l → InOrder m → ((v w : List ℕ) → In v l → In w m → Before v w) → InOrder (l ++ m)
unfolding In InOrder
joined_order [] m h g apart = g
joined_order (u ∷ l) m h g apart = (
  λ w k. ⊎_elim (h.0 w) (apart u w (inl refl)) (joined_in l m w k),
  joined_order l m h.1 g (λ v w k. apart v w (inr k)),
)

-- ---- the same entry in front of each list
abbrev headed : ℕ → List (List ℕ) → List (List ℕ)
headed e l = map (λ v. e ∷ v) l

headed_in : (P : List ℕ → Type 0) (e : ℕ) (l : List (List ℕ)) → ((v : List ℕ) → In v l → P (e ∷ v)) → (v : List ℕ) → In v (headed e l) → P v
unfolding In
headed_in P e [] h v m = absurd m
headed_in P e (u ∷ l) h v (inl q) = rw q (h u (inl refl))
headed_in P e (u ∷ l) h v (inr m) = headed_in P e l (λ w k. h w (inr k)) v m

headed_has : (e : ℕ) (l : List (List ℕ)) (v : List ℕ) → In v l → In (e ∷ v) (headed e l)
unfolding In
headed_has e [] v m = m
headed_has e (u ∷ l) v (inl q) = inl (rw q refl)
headed_has e (u ∷ l) v (inr m) = inr (headed_has e l v m)

headed_order : (e : ℕ) (l : List (List ℕ)) → InOrder l → InOrder (headed e l)
unfolding InOrder Before
headed_order e [] h = tt
headed_order e (v ∷ l) h = (headed_in (Before (e ∷ v)) e l (λ w m. inr (refl, h.0 w m)), headed_order e l h.1)

-- ---- each of k entries from e on in front of each list
abbrev spread : List (List ℕ) → ℕ → ℕ → List (List ℕ)
spread l k e = concat_map (λ x. headed x l) (from e k)

-- the first entry is e or larger
abbrev Onward : ℕ → List ℕ → Type 0
Onward e [] = ⊥
Onward e (x ∷ v) = e ≤ x

onward_less : (e : ℕ) (v : List ℕ) → Onward (suc e) v → Onward e v
onward_less e [] h = h
onward_less e (x ∷ v) h = omega arith

onward_after : (e : ℕ) (u w : List ℕ) → Onward (suc e) w → Before (e ∷ u) w
unfolding Before
onward_after e u [] h = h
onward_after e u (x ∷ w) h = inl h

after_empty : (v : List ℕ) → Onward 0 v → Before [] v
unfolding Before
after_empty [] h = h
after_empty (x ∷ v) h = tt

module _ (l : List (List ℕ)) where
  spread_onward : (k e : ℕ) (v : List ℕ) → In v (spread l k e) → Onward e v
  unfolding In
  spread_onward zero e v m = absurd m
  spread_onward (suc k) e v m =
      ⊎_elim (headed_in (Onward e) e l (λ w n. omega arith) v) (λ n. onward_less e v (spread_onward k (suc e) v n))
      (joined_in (headed e l) (spread l k (suc e)) v m)

  spread_has : (k e x : ℕ) (v : List ℕ) → e ≤ x → x < e + k → In v l → In (x ∷ v) (spread l k e)
  spread_has zero e x v h g m = absurd (omega arith)
  spread_has (suc k) e x v h g m =
      ⊎_elim (λ q. joined_left (headed e l) (spread l k (suc e)) (x ∷ v) (rw (← q) (headed_has e l v m)))
      (λ n. joined_right (headed e l) (spread l k (suc e)) (x ∷ v) (spread_has k (suc e) x v n (omega arith) m))
      (eq-or-lt_of_le h)

  spread_order : InOrder l → (k e : ℕ) → InOrder (spread l k e)
  unfolding InOrder
  spread_order h zero e = tt
  spread_order h (suc k) e =
      joined_order (headed e l) (spread l k (suc e)) (headed_order e l h) (spread_order h k (suc e))
      (λ v w m n. headed_in (λ u. Before u w) e l (λ u i. onward_after e u w (spread_onward k (suc e) w n)) v m)

-- ---- all lists of at most k entries
short_has : (size k : ℕ) (v : List ℕ) → length v ≤ k → ((i : ℕ) → i < length v → get_or v i 0 < size) → In v (short_lists size k)
unfolding In short_lists
short_has size zero [] h low = inl refl
short_has size zero (e ∷ v) h low = absurd (omega arith)
short_has size (suc k) [] h low = inl refl
short_has size (suc k) (e ∷ v) h low =
    let first = low 0 (omega arith) in
    inr (spread_has (short_lists size k) size 0 e v (omega arith) (omega arith)
    (short_has size k v (omega arith) (λ i m. low (suc i) (omega arith))))

short_order : (size k : ℕ) → InOrder (short_lists size k)
unfolding In InOrder short_lists
short_order size zero = (λ w m. absurd m, tt)
short_order size (suc k) = (
  λ w m. after_empty w (spread_onward (short_lists size k) size 0 w m),
  spread_order (short_lists size k) (short_order size k) size 0,
)

-- ---- the test of the order says whether a list stands at or before another
test_stands : (v w : List ℕ) → at_or_before v w ≡ true → (v ≡ w) ⊎ Before v w
unfolding at_or_before Before
test_stands [] [] q = inl refl
test_stands [] (b ∷ w) q = inr tt
test_stands (a ∷ v) [] q = absurd (true≢false (sym q))
test_stands (a ∷ v) (b ∷ w) q =
    by_test (ltb a b) (λ e. inr (inl (ltb-true a b e)))
    (λ e. let p = and_parts (eqb a b) (at_or_before v w) (rw e at q) in
    let s = eqb-true a b p.0 in
    ⊎_elim (λ r. inl cc) (λ r. inr (inr (s, r))) (test_stands v w p.1))

itself_test : (v : List ℕ) → at_or_before v v ≡ true
unfolding at_or_before
itself_test [] = refl
itself_test (a ∷ v) = rw (eq-eqb a a refl, itself_test v) (or-true (ltb a a))

before_test : (v w : List ℕ) → Before v w → at_or_before v w ≡ true
unfolding at_or_before Before
before_test v [] h = absurd h
before_test [] (b ∷ w) h = refl
before_test (a ∷ v) (b ∷ w) (inl h) = rw (lt-ltb a b h) refl
before_test (a ∷ v) (b ∷ w) (inr h) = rw (eq-eqb a b h.0, before_test v w h.1) (or-true (ltb a b))

counts_stands : (o : Option (List ℕ)) (v : List ℕ) → counts o v ≡ true → AtOrBefore v o
counts_stands none v q = tt
counts_stands (some w) v q = test_stands v w q

stands_counts : (o : Option (List ℕ)) (v : List ℕ) → AtOrBefore v o → counts o v ≡ true
stands_counts none v h = refl
stands_counts (some w) v (inl q) = rw q (itself_test w)
stands_counts (some w) v (inr h) = before_test v w h

module _ (t : Table) (ns : List Need) where
  -- ---- the test of a list says whether it is a partial way
  test_partial : (v : List ℕ) → is_partial_way t ns v ≡ true → PartialWay t ns v
  unfolding is_partial_way
  test_partial [] q = absurd (true≢false (sym q))
  test_partial (e ∷ v) q = record { one_or_more = omega arith; first_needs = within; is_way = way }
    where
      way : Way t (take (length (e ∷ v)) ns) (e ∷ v)
      way = is_way_lem t (take (length (e ∷ v)) ns) (e ∷ v) q

      within : length (e ∷ v) ≤ length ns
      within = omega (arith, way.as_long, length-take (length (e ∷ v)) ns)

  partial_test : (v : List ℕ) → PartialWay t ns v → is_partial_way t ns v ≡ true
  unfolding is_partial_way
  partial_test [] h = absurd (let l = h.one_or_more in omega arith)
  partial_test (e ∷ v) h = way_is t (take (length (e ∷ v)) ns) (e ∷ v) h.is_way

  -- its entries are entries of the table
  partial_low : (v : List ℕ) → PartialWay t ns v → (i : ℕ) → i < length v → get_or v i 0 < length t
  partial_low v h i m =
      served_low t (get_or v i 0) (need_at (take (length v) ns) i).role (h.is_way.serving i (let l = h.is_way.as_long in omega arith))

  abbrev passed : List ℕ → Bool
  passed v = is_partial_way t ns v && counts (earliest_way t ns) v

  -- ---- the laws
  -- EACH LIST THAT IS COUNTED IS A PARTIAL WAY AT OR BEFORE THE ANSWER
  pub tried_each : (v : List ℕ) → In v (tried_ways t ns) → PartialWay t ns v × AtOrBefore v (earliest_way t ns)
  unfolding tried_ways
  tried_each v m =
      let h = (filtered_in passed (short_lists (length t) (length ns)) v m).1 in
      let parts = and_parts (is_partial_way t ns v) (counts (earliest_way t ns) v) h in
      (test_partial v parts.0, counts_stands (earliest_way t ns) v parts.1)

  -- EVERY PARTIAL WAY AT OR BEFORE THE ANSWER IS COUNTED
  pub tried_all : (v : List ℕ) → PartialWay t ns v → AtOrBefore v (earliest_way t ns) → In v (tried_ways t ns)
  unfolding tried_ways
  tried_all v h s =
      filtered_has passed (short_lists (length t) (length ns)) v (short_has (length t) (length ns) v h.first_needs (partial_low v h))
      (rw (partial_test v h) (stands_counts (earliest_way t ns) v s))

  -- NONE IS COUNTED TWICE
  pub tried_once : InOrder (tried_ways t ns)
  unfolding tried_ways
  tried_once = filtered_order passed (short_lists (length t) (length ns)) (short_order (length t) (length ns))

-- ---- THE THEOREM
pub tries_law : TriesLaw
tries_law = record { each = tried_each; all = tried_all; once = tried_once; most = tries_most }
