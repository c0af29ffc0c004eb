-- One number more in a list: what becomes of its distinct numbers. Assumes nothing.
use Rattle.std.proofs.Common.{◌≡◌, ℕ, zero, suc, ◌+◌, ◌<◌, ◌≤◌, false, cond, List, [], ◌∷◌, ◌++◌, length, sym, refl, ap, ◌∙◌, inl, inr, ⊎_elim, true≢false, arith}
use Rattle.sheet.specs.Lists.{elemb, from, below}
use Rattle.sheet.proofs.Laws.{by_test}
use Rattle.sheet.proofs.Lists.{below_length}
use Rattle.distinct.specs.Rising.{insert, rising, distinct}
use Rattle.distinct.proofs.Rising.{In, Above, insert_cases, insert_above, in_insert, insert_in, in_above, distinct_mono, distinct_length, rising_above, in_rising, rising_in, rising_same, same, in_append, append_in}
use Rattle.distinct.proofs.Nets.{elem_in, in_elem, from_above, from_in}

not_in : (z : ℕ) (l : List ℕ) → elemb z l ≡ false → In z l → ⊥
not_in z l f m = true≢false (sym (in_elem z l m) ∙ f)

-- ---- in front
insert_new : (x : ℕ) (l : List ℕ) → (In x l → ⊥) → length (insert x l) ≡ suc (length l)
insert_new x [] h = refl
insert_new x (y ∷ ys) h =
    insert_cases (λ l. length l ≡ suc (suc (length ys))) x y ys (λ _. refl) (λ e. absurd (h (inl e)))
    (λ _. ap suc (insert_new x ys (λ m. h (inr m))))

pub distinct_cons : (x : ℕ) (xs : List ℕ) → distinct (x ∷ xs) ≡ cond (elemb x xs) (distinct xs) (suc (distinct xs))
distinct_cons x xs =
    by_test (elemb x xs)
    (λ t. rw t (ap length (rising_same (x ∷ xs) xs (λ z. ⊎_elim (λ e. rw e (elem_in x xs t)) (λ m. m)) (λ z m. inr m))))
    (λ t. rw t (ap length put_in ∙ insert_new x (rising xs) (λ m. not_in x xs t (in_rising x xs m))))
  where
    put_in : rising (x ∷ xs) ≡ insert x (rising xs)
    put_in =
        same (rising (x ∷ xs)) (insert x (rising xs)) (rising_above (x ∷ xs)) (insert_above 0 x (rising xs) (omega arith) (rising_above xs))
        (λ z m. insert_in z x (rising xs) (⊎_elim (λ e. inl e) (λ n. inr (rising_in z xs n)) (in_rising z (x ∷ xs) m)))
        (λ z m. rising_in z (x ∷ xs) (⊎_elim (λ e. inl e) (λ n. inr (in_rising z xs n)) (in_insert z x (rising xs) m)))

-- a run of numbers that are not there yet counts in full
pub distinct_run : (s m : ℕ) (xs : List ℕ) → ((z : ℕ) → s ≤ z → elemb z xs ≡ false) → distinct (from s m ++ xs) ≡ m + distinct xs
distinct_run s zero xs h = omega arith
distinct_run s (suc m) xs h =
    let rest = distinct_run (suc s) m xs (λ z g. h z (omega arith)) in
    let new : elemb s (from (suc s) m ++ xs) ≡ false =
    by_test (elemb s (from (suc s) m ++ xs))
    (λ t. absurd (⊎_elim (λ n. omega (arith, in_above (suc s) s (from (suc s) m) (from_above (suc s) m) n)) (not_in s xs (h s (omega arith)))
    (in_append s (from (suc s) m) xs (elem_in s (from (suc s) m ++ xs) t))))
    (λ t. t) in
    distinct_cons s (from (suc s) m ++ xs) ∙ rw new (omega (arith, rest))

-- numbers below n are at most n different ones
pub distinct_below : (n : ℕ) (xs : List ℕ) → ((z : ℕ) → In z xs → z < n) → distinct xs ≤ n
distinct_below n xs h =
    omega (arith, distinct_mono xs (below n) (λ z m. from_in z 0 n (omega arith) (omega (arith, h z m))), distinct_length (below n), below_length n)

-- ---- behind
pub last_above : (b z a : ℕ) (l : List ℕ) → Above b (l ++ (a ∷ [])) → In z l → z < a
last_above b z a (x ∷ l) h (inl e) = omega (arith, in_above (suc x) a (l ++ (a ∷ [])) h.1 (append_in a l (a ∷ []) (inr (inl refl))))
last_above b z a (x ∷ l) h (inr m) = last_above (suc x) z a l h.1 m
last_above b z a [] h x'' = elim x'' [ ]

above_last : (b a : ℕ) (l : List ℕ) → Above b l → b ≤ a → ((z : ℕ) → In z l → z < a) → Above b (l ++ (a ∷ []))
above_last b a [] h g f = (g, tt)
above_last b a (x ∷ l) h g f = (h.0, above_last (suc x) a l h.1 (f x (inl refl)) (λ z m. f z (inr m)))

-- a number above all comes last; one that is there changes nothing
pub rising_last : (xs : List ℕ) (a : ℕ) → ((z : ℕ) → In z xs → z < a) → rising (xs ++ (a ∷ [])) ≡ rising xs ++ (a ∷ [])
rising_last xs a f =
    same (rising (xs ++ (a ∷ []))) (rising xs ++ (a ∷ [])) (rising_above (xs ++ (a ∷ [])))
    (above_last 0 a (rising xs) (rising_above xs) (omega arith) (λ z m. f z (in_rising z xs m)))
    (λ z m. append_in z (rising xs) (a ∷ []) (⊎_elim (λ n. inl (rising_in z xs n)) (λ n. inr n) (in_append z xs (a ∷ []) (in_rising z (xs ++ (a ∷ [])) m))))
    (λ z m. rising_in z (xs ++ (a ∷ [])) (append_in z xs (a ∷ []) (⊎_elim (λ n. inl (in_rising z xs n)) (λ n. inr n) (in_append z (rising xs) (a ∷ []) m))))

pub rising_again : (xs : List ℕ) (a : ℕ) → In a xs → rising (xs ++ (a ∷ [])) ≡ rising xs
rising_again xs a h =
    rising_same (xs ++ (a ∷ [])) xs
    (λ z m. ⊎_elim (λ n. n) (⊎_elim (λ e. rw e h) (λ n. absurd n)) (in_append z xs (a ∷ []) m))
    (λ z m. append_in z xs (a ∷ []) (inl m))
