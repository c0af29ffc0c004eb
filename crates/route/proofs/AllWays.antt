-- The earliest of all ways is a way that comes before every other, and it is what the search finds. The lists of entries stand in the order of
-- ways, and every way is among them. Assumes nothing.
use Prim.Native.Nat.{ℕ, zero, suc, ◌+◌, ◌<◌, ◌≤◌}
use mathlib.Core.Path.{◌≡◌, refl, sym, ap, ◌∙◌}
use mathlib.Core.Logic.{◌⊎◌, inl, inr, ⊎_elim, ◌↔◌}
use mathlib.Core.Bool.{Bool, true, false, cond, ◌&&◌, true≢false}
use mathlib.Core.List.{List, [], ◌∷◌, ◌++◌, map}
use mathlib.Core.Option.{Option, none, some}
use native.Mathlib.Nat.{zero-add, not-suc-le-zero, le_of_suc-le-suc}
use native.Mathlib.Omega.{arith}
use lib.ListN.{length, get_or, replicate, get_or-eq_default}
use lib.Dec.{eqb}
use borrow.Author.Tests.{eqb-true, eq-eqb}
use Rattle.sheet.specs.Lists.{concat_map, filterb, from}
use Rattle.sheet.proofs.Laws.{by_test, and_parts}
use Rattle.entries.specs.declared.Need.{Need}
use Rattle.entries.specs.Table.{Table, ENTRIES, serves, no_row, eight_rows, need_at, need_net}
use Rattle.route.specs.Way.{Way, Earlier, fits, fits_all, is_way, entry_lists, ways, first_of, earliest_way}
use Rattle.route.specs.Served.{SameServed}
use Rattle.route.specs.passes.Search.{attempt, pick, found_way}
use Rattle.route.proofs.FirstGiven.{First, Begun, first_none, first_some, first_found, first_same, pick_first}
use Rattle.route.proofs.Ways.{OneNet, served_low, way_nil, way_cons, way_serves, way_shares, way_rest, first_way}

-- ---- of all lists of entries, the first that passes a test
module _ (p : List ℕ → Bool) (e : ℕ) (rest : List (List ℕ)) where
  begun : (l : List (List ℕ))
      → first_of (filterb p (map (λ w. e ∷ w) l ++ rest)) ≡ attempt true (first_of (filterb (λ w. p (e ∷ w)) l)) e (first_of (filterb p rest))
  begun [] = refl
  begun (w ∷ l) = by_test (p (e ∷ w)) (λ q. rw q refl) (λ q. rw q (begun l))

lists_pick : (p : List ℕ → Bool) (l : List (List ℕ)) (k e : ℕ)
    → first_of (filterb p (concat_map (λ x. map (λ w. x ∷ w) l) (from e k))) ≡ pick (λ _. true) (λ x. first_of (filterb (λ w. p (x ∷ w)) l)) k e
unfolding pick
lists_pick p l zero e = refl
lists_pick p l (suc k) e = begun p e (concat_map (λ x. map (λ w. x ∷ w) l) (from (suc e) k)) l ∙ rw (lists_pick p l k (suc e)) refl

-- the lists of k entries below size that pass p
abbrev Within : ℕ → ℕ → (List ℕ → Bool) → List ℕ → Type 0
Within size zero p [] = p [] ≡ true
Within size zero p (e ∷ w) = ⊥
Within size (suc k) p [] = ⊥
Within size (suc k) p (e ∷ w) = (e < size) × Within size k (λ v. p (e ∷ v)) w

empty_first : (size : ℕ) (p : List ℕ → Bool) (b : Bool) → p [] ≡ b → First (Within size zero p) (first_of (cond b ([] ∷ []) []))
unfolding First
empty_first size p true q = (q, only)
  where
    only : (v : List ℕ) → Within size zero p v → (v ≡ []) ⊎ Earlier [] v
    only [] h = inl refl
    only (x ∷ v) h = absurd h
empty_first size p false q = never
  where
    never : (v : List ℕ) → Within size zero p v → ⊥
    never [] h = true≢false (sym h ∙ q)
    never (x ∷ v) h = h

lists_first : (size k : ℕ) (p : List ℕ → Bool) → First (Within size k p) (first_of (filterb p (entry_lists size k)))
unfolding entry_lists
lists_first size zero p = empty_first size p (p []) refl
lists_first size (suc k) p =
    first_same (Begun (λ _. true) R 0 size) (Within size (suc k) p) there back (first_of (filterb p (entry_lists size (suc k))))
    (rw (lists_pick p (entry_lists size k) size 0)
    (pick_first (λ _. true) (λ e. first_of (filterb (λ w. p (e ∷ w)) (entry_lists size k))) R (λ e. lists_first size k (λ v. p (e ∷ v))) size 0 size (zero-add size)))
  where
    R : ℕ → List ℕ → Type 0
    R e = Within size k (λ v. p (e ∷ v))

    there : (v : List ℕ) → Begun (λ _. true) R 0 size v → Within size (suc k) p v
    there [] b = absurd b
    there (x ∷ v) b = (b.1, b.3)

    back : (v : List ℕ) → Within size (suc k) p v → Begun (λ _. true) R 0 size v
    back [] b = absurd b
    back (x ∷ v) b = (omega arith, b.0, refl, b.1)

within_parts : (size k : ℕ) (p : List ℕ → Bool) (w : List ℕ) → Within size k p w → p w ≡ true
within_parts size zero p [] h = h
within_parts size zero p (e ∷ w) h = absurd h
within_parts size (suc k) p [] h = absurd h
within_parts size (suc k) p (e ∷ w) h = within_parts size k (λ v. p (e ∷ v)) w h.1

within_from : (size k : ℕ) (p : List ℕ → Bool) (w : List ℕ) → length w ≡ k → ((i : ℕ) → i < length w → get_or w i 0 < size) → p w ≡ true → Within size k p w
within_from size zero p [] l low h = h
within_from size zero p (e ∷ w) l low h = absurd (omega arith)
within_from size (suc k) p [] l low h = absurd (omega arith)
within_from size (suc k) p (e ∷ w) l low h =
    (low 0 (omega arith), within_from size k (λ v. p (e ∷ v)) w (omega arith) (λ i m. low (suc i) (omega arith)) h)

-- ---- the test of a list says whether it is a way
fits_net : (n m : Need) (e x : ℕ) → fits n e m x ≡ true → e ≡ x → need_net n ≡ need_net m
fits_net n m e x h q = eqb-true (need_net n) (need_net m) (rw (eq-eqb e x q) at h)

net_fits : (n m : Need) (e x : ℕ) → (e ≡ x → need_net n ≡ need_net m) → fits n e m x ≡ true
net_fits n m e x h =
    by_test (eqb e x) (λ q. rw (q, eq-eqb (need_net n) (need_net m) (h (eqb-true e x q))) refl) (λ q. rw q refl)

test_one_net : (n : Need) (e : ℕ) (ns : List Need) (w : List ℕ) → length w ≡ length ns → fits_all n e ns w ≡ true → OneNet n e ns w
test_one_net n e ns [] l h i m = absurd (not-suc-le-zero m)
test_one_net n e [] (x ∷ w) l h i m = absurd (omega arith)
test_one_net n e (k ∷ ns) (x ∷ w) l h zero m = fits_net n k e x (and_parts (fits n e k x) (fits_all n e ns w) h).0
test_one_net n e (k ∷ ns) (x ∷ w) l h (suc i) m =
    test_one_net n e ns w (omega arith) (and_parts (fits n e k x) (fits_all n e ns w) h).1 i (le_of_suc-le-suc m)

one_net_test : (n : Need) (e : ℕ) (ns : List Need) (w : List ℕ) → OneNet n e ns w → fits_all n e ns w ≡ true
one_net_test n e [] w h = refl
one_net_test n e (k ∷ ns) [] h = refl
one_net_test n e (k ∷ ns) (x ∷ w) h =
    rw (net_fits n k e x (h 0 (omega arith)), one_net_test n e ns w (λ i m. h (suc i) (omega arith))) refl

module _ (t : Table) where
  pub is_way_lem : (ns : List Need) (w : List ℕ) → is_way t ns w ≡ true → Way t ns w
  unfolding is_way
  is_way_lem [] [] q = way_nil t
  is_way_lem [] (e ∷ w) q = absurd (true≢false (sym q))
  is_way_lem (n ∷ ns) [] q = absurd (true≢false (sym q))
  is_way_lem (n ∷ ns) (e ∷ w) q =
      let parts = and_parts (serves t e n.role && fits_all n e ns w) (is_way t ns w) q in
      let here = and_parts (serves t e n.role) (fits_all n e ns w) parts.0 in
      let rest = is_way_lem ns w parts.1 in
      way_cons t n ns e w here.0 (test_one_net n e ns w rest.as_long here.1) rest

  pub way_is : (ns : List Need) (w : List ℕ) → Way t ns w → is_way t ns w ≡ true
  unfolding is_way
  way_is [] [] h = refl
  way_is [] (e ∷ w) h = absurd (let q = h.as_long in omega arith)
  way_is (n ∷ ns) [] h = absurd (let q = h.as_long in omega arith)
  way_is (n ∷ ns) (e ∷ w) h = rw (way_serves t n ns e w h, one_net_test n e ns w (way_shares t n ns e w h), way_is ns w (way_rest t n ns e w h)) refl

-- ---- there is one first list at the most
not_both : (v w : List ℕ) → Earlier v w → Earlier w v → ⊥
unfolding Earlier
not_both [] w h g = h
not_both (a ∷ v) [] h g = h
not_both (a ∷ v) (b ∷ w) (inl h) (inl g) = omega arith
not_both (a ∷ v) (b ∷ w) (inl h) (inr g) = let q = g.0 in omega arith
not_both (a ∷ v) (b ∷ w) (inr h) (inl g) = let q = h.0 in omega arith
not_both (a ∷ v) (b ∷ w) (inr h) (inr g) = not_both v w h.1 g.1

one_first : (P : List ℕ → Type 0) (o q : Option (List ℕ)) → First P o → First P q → o ≡ q
unfolding First
one_first P none none h g = refl
one_first P none (some w) h g = absurd (h w g.0)
one_first P (some v) none h g = absurd (g v h.0)
one_first P (some v) (some w) h g =
    ap some (⊎_elim (λ e. e) (λ l. ⊎_elim (λ e. sym e) (λ m. absurd (not_both w v l m)) (h.1 w g.0)) (g.1 v h.0))

-- ---- the laws
module _ (t : Table) (ns : List Need) where
  earliest_first : First (Way t ns) (earliest_way t ns)
  unfolding earliest_way ways
  earliest_first =
      first_same (Within (length t) (length ns) (is_way t ns)) (Way t ns) (λ w h. is_way_lem t ns w (within_parts (length t) (length ns) (is_way t ns) w h))
      (λ w h. within_from (length t) (length ns) (is_way t ns) w h.as_long
      (λ i m. served_low t (get_or w i 0) (need_at ns i).role (h.serving i (let q = h.as_long in omega arith))) (way_is t ns w h))
      (first_of (filterb (is_way t ns) (entry_lists (length t) (length ns)))) (lists_first (length t) (length ns) (is_way t ns))

  -- 65: THE SEARCH FINDS THE EARLIEST WAY
  pub found_earliest : found_way t ns ≡ earliest_way t ns
  found_earliest = one_first (Way t ns) (found_way t ns) (earliest_way t ns) (first_way t ns) earliest_first

  pub earliest_none : (earliest_way t ns ≡ none) ↔ ((w : List ℕ) → Way t ns w → ⊥)
  earliest_none = first_none (Way t ns) (earliest_way t ns) earliest_first

  pub earliest_some : (w : List ℕ) → earliest_way t ns ≡ some w → Way t ns w × ((v : List ℕ) → Way t ns v → (v ≡ w) ⊎ Earlier w v)
  earliest_some w q = first_some (Way t ns) (earliest_way t ns) w earliest_first q

  pub earliest_found : (w : List ℕ) → Way t ns w → (v : List ℕ) × (earliest_way t ns ≡ some v)
  earliest_found w p = first_found (Way t ns) (earliest_way t ns) earliest_first w p

-- ---- a way reads only what an entry serves
way_served : (t u : Table) → SameServed t u → (ns : List Need) (w : List ℕ) → Way t ns w → Way u ns w
way_served t u same ns w h = record {
  as_long = h.as_long;
  serving = λ i m. sym (same (get_or w i 0) (need_at ns i).role) ∙ h.serving i m;
  one_net = h.one_net;
}

-- 65: SAME ENTRIES SERVED, SAME WAYS
pub same_earliest : (t u : Table) → SameServed t u → (ns : List Need) → earliest_way t ns ≡ earliest_way u ns
same_earliest t u same ns =
    one_first (Way u ns) (earliest_way t ns) (earliest_way u ns)
    (first_same (Way t ns) (Way u ns) (way_served t u same ns) (way_served u t (λ e r. sym (same e r)) ns) (earliest_way t ns) (earliest_first t ns))
    (earliest_first u ns)

-- rows that serve nothing change no way
blank : (k r : ℕ) → get_or (replicate k false) r false ≡ false
blank zero r = refl
blank (suc k) zero = refl
blank (suc k) (suc r) = blank k r

padded : (t : Table) (e r : ℕ) → get_or (get_or t e no_row) r false ≡ serves t e r
padded [] e r = blank 5 r
padded (x ∷ t) zero r = refl
padded (x ∷ t) (suc e) r = padded t e r

rows_from : (t : Table) (i k e r : ℕ) → length t ≤ i + k → get_or (get_or (map (λ j. get_or t j no_row) (from i k)) e []) r false ≡ serves t (i + e) r
rows_from t i zero e r h = let none : length t ≤ i + e = omega arith in rw (get_or-eq_default t [] none)
rows_from t i (suc k) zero r h = let same : i + 0 ≡ i = omega arith in rw same (padded t i r)
rows_from t i (suc k) (suc e) r h = let same : i + suc e ≡ suc i + e = omega arith in rw same (rows_from t (suc i) k e r (omega arith))

pub rows_serve : (t : Table) → length t ≤ ENTRIES → SameServed (eight_rows t) t
unfolding eight_rows
rows_serve t h e r = let same : 0 + e ≡ e = omega arith in rw same at (rows_from t 0 ENTRIES e r h)

pub no_needs_lem : (t : Table) → earliest_way t [] ≡ some []
unfolding earliest_way ways entry_lists is_way
no_needs_lem t = refl
