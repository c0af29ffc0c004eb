-- The credits add up to the number of distinct (apprentice, minute) pairs. A pair more is a minute more of its own apprentice, and of nobody else.
-- Assumes nothing.
use Prim.Native.Nat.{ℕ, suc, ◌+◌}
use mathlib.Core.Path.{◌≡◌, refl, sym, ap, ◌∙◌}
use mathlib.Core.Logic.{◌⊎◌, inl, inr, ⊎_elim}
use mathlib.Core.Bool.{cond}
use mathlib.Core.List.{List, [], ◌∷◌, ◌++◌, map}
use native.Mathlib.Omega.{arith}
use lib.ListN.{length-map}
use lib.Seq.{take-append_seam}
use lib.Dec.{eqb}
use borrow.Author.Tests.{eq-eqb, ne_eqb, eqb-true, eqb-false}
use Rattle.sheet.specs.Lists.{anyb, elemb}
use Rattle.sheet.proofs.Laws.{by_test}
use Rattle.distinct.specs.Rising.{rising, distinct}
use Rattle.distinct.proofs.Rising.{In, Above, in_above, rising_above, rising_in}
use Rattle.distinct.proofs.More.{distinct_cons}
use Rattle.tablet_log.specs.declared.Entry.{Entry}
use Rattle.tablet_log.specs.Log.{entries}
use Rattle.tablet_log.specs.Minutes.{minutes_of, is_own, own_minutes, credit, apprentices, row_of, rows_of}
use Rattle.tablet_log.specs.Credited.{credited, credits_after}
use Rattle.tablet_log.specs.Laws.{CreditsAddUp}
use Rattle.tablet_log.specs.Pairs.{Pair, pair, pairs_of, all_pairs, same_pair, distinct_pairs, credits_of}

-- ---- sums over the apprentices
total : (ℕ → ℕ) → List ℕ → ℕ
total f [] = 0
total f (a ∷ xs) = f a + total f xs

total_same : (f g : ℕ → ℕ) (xs : List ℕ) → ((a : ℕ) → In a xs → f a ≡ g a) → total f xs ≡ total g xs
unfolding total
total_same f g [] h = refl
total_same f g (a ∷ xs) h = rw (h a (inl refl), total_same f g xs (λ b m. h b (inr m)))

total_none : (xs : List ℕ) → total (λ a. 0) xs ≡ 0
unfolding total
total_none [] = refl
total_none (a ∷ xs) = rw (total_none xs)

past : (b z : ℕ) (xs : List ℕ) → Above (suc b) xs → In z xs → z ≡ b → ⊥
past b z xs h m q = omega (arith, in_above (suc b) z xs h m)

-- one more for a, who is in the list once
total_more : (f g : ℕ → ℕ) (a b : ℕ) (xs : List ℕ) → Above b xs → In a xs → g a ≡ suc (f a)
    → ((z : ℕ) → (z ≡ a → ⊥) → g z ≡ f z) → total g xs ≡ suc (total f xs)
unfolding total
total_more f g a b [] h m p q = elim m [ ]
total_more f g a b (x ∷ xs) h (inl e) p q =
    let rest = total_same g f xs (λ z m. q z (λ w. past x z xs h.1 m (w ∙ e))) in
    rw (← e) (omega (arith, p, rest))
total_more f g a b (x ∷ xs) h (inr m) p q =
    let rest = total_more f g a (suc x) xs h.1 m p q in
    let here = q x (λ w. past x a xs h.1 m (sym w)) in
    omega arith

-- ---- the minutes of one apprentice among the pairs
minutes_for : ℕ → List Pair → List ℕ
minutes_for a [] = []
minutes_for a (p ∷ ps) = cond (eqb p.apprentice a) (p.minute ∷ minutes_for a ps) (minutes_for a ps)

again : (p : Pair) (ps : List Pair) → anyb (same_pair p) ps ≡ elemb p.minute (minutes_for p.apprentice ps)
unfolding minutes_for
again p [] = refl
again p (q ∷ ps) =
    by_test (eqb q.apprentice p.apprentice)
    (λ t. rw (t, eq-eqb p.apprentice q.apprentice (sym (eqb-true q.apprentice p.apprentice t)), again p ps))
    (λ t. rw (t, ne_eqb p.apprentice q.apprentice (λ e. eqb-false q.apprentice p.apprentice t (sym e))) (again p ps))

pairs_total : (ps : List Pair) (xs : List ℕ) → Above 0 xs → ((z : ℕ) → In z (map (λ p. p.apprentice) ps) → In z xs)
    → total (λ a. distinct (minutes_for a ps)) xs ≡ distinct_pairs ps
unfolding distinct_pairs minutes_for
pairs_total [] xs h m = total_none xs
pairs_total (p ∷ ps) xs h m =
    let a = p.apprentice in
    let rest = pairs_total ps xs h (λ z n. m z (inr n)) in
    let before : ℕ → ℕ = λ b. distinct (minutes_for b ps) in
    let after : ℕ → ℕ = λ b. distinct (minutes_for b (p ∷ ps)) in
    let other : (z : ℕ) → (z ≡ a → ⊥) → after z ≡ before z = λ z n. rw (ne_eqb a z (λ e. n (sym e))) in
    let own : after a ≡ cond (anyb (same_pair p) ps) (before a) (suc (before a)) =
    rw (eq-eqb a a refl, again p ps) (distinct_cons p.minute (minutes_for a ps)) in
    by_test (anyb (same_pair p) ps)
    (λ t. let here : after a ≡ before a = own ∙ rw t in rw t (total_same after before xs (λ z n. by_test (eqb z a) (λ u. ap after (eqb-true z a u) ∙ (here ∙ sym (ap before (eqb-true z a u)))) (λ u. other z (eqb-false z a u))) ∙ rest))
    (λ t. rw t (total_more before after a 0 xs h (m a (inl refl)) (own ∙ rw t) other ∙ ap suc rest))

-- ---- the pairs of the entries
for_append : (a : ℕ) (ps qs : List Pair) → minutes_for a (ps ++ qs) ≡ minutes_for a ps ++ minutes_for a qs
unfolding minutes_for
for_append a [] qs = refl
for_append a (p ∷ ps) qs = by_test (eqb p.apprentice a) (λ t. rw (t, for_append a ps qs)) (λ t. rw (t, for_append a ps qs))

for_entry : (a b : ℕ) (ms : List ℕ) → minutes_for a (map (pair b) ms) ≡ cond (eqb b a) ms []
unfolding minutes_for
for_entry a b [] = by_test (eqb b a) (λ t. rw t) (λ t. rw t)
for_entry a b (m ∷ ms) = by_test (eqb b a) (λ t. rw (t, for_entry a b ms, t)) (λ t. rw (t, for_entry a b ms, t))

for_all : (a : ℕ) (es : List Entry) → minutes_for a (all_pairs es) ≡ own_minutes es a
unfolding minutes_for
for_all a [] = refl
for_all a (e ∷ es) =
    for_append a (pairs_of e) (all_pairs es)
    ∙ rw (for_entry a e.apprentice (minutes_of e), for_all a es) (by_test (is_own a e) (λ t. rw t) (λ t. rw t))

whose : (z : ℕ) (es : List Entry) → In z (map (λ p. p.apprentice) (all_pairs es)) → In z (map (λ e. e.apprentice) es)
whose z [] m = elim m [ ]
whose z (e ∷ es) m = ⊎_elim (λ q. inl q) (λ n. inr (whose z es n)) (from_pairs (minutes_of e) m)
  where
    from_pairs : (ms : List ℕ) → In z (map (λ p. p.apprentice) (map (pair e.apprentice) ms ++ all_pairs es))
        → (z ≡ e.apprentice) ⊎ In z (map (λ p. p.apprentice) (all_pairs es))
    from_pairs [] n = inr n
    from_pairs (x ∷ ms) (inl q) = inl q
    from_pairs (x ∷ ms) (inr n) = from_pairs ms n

rows_total : (es : List Entry) (xs : List ℕ) → credits_of (map (row_of es) xs) ≡ total (credit es) xs
unfolding credits_of total
rows_total es [] = refl
rows_total es (x ∷ xs) = rw (rows_total es xs)

entries_add_up : (es : List Entry) → credits_of (rows_of es) ≡ distinct_pairs (all_pairs es)
unfolding rows_of apprentices credit
entries_add_up es =
    let xs = map (λ (e : Entry). e.apprentice) es in
    rows_total es (rising xs)
    ∙ total_same (credit es) (λ a. distinct (minutes_for a (all_pairs es))) (rising xs) (λ a m. ap distinct (sym (for_all a es)))
    ∙ pairs_total (all_pairs es) (rising xs) (rising_above xs) (λ z m. rising_in z xs (whose z es m))

-- the same of the rows at exit
pub credits_add_up : CreditsAddUp
unfolding credited credits_after rows_of
credits_add_up l rows numbers h =
    let es = entries l in
    rw (h, ← length-map (apprentices es) (row_of es)) (ap credits_of (take-append_seam (rows_of es) _) ∙ entries_add_up es)
