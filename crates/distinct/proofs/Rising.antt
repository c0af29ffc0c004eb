-- What the distinct numbers of a list are: rising, each once, and just the list's own. Two rising lists with the same members are one list,
-- and so more members never make fewer distinct numbers. Assumes nothing.
use Rattle.std.proofs.Common.{◌≡◌, ℕ, suc, ◌+◌, ◌<◌, ◌≤◌, Bool, true, eqb, ltb, ◌⊎◌, List, [], ◌∷◌, ◌++◌, map, length, refl, ap, ◌∙◌, inl, inr, ⊎_elim, arith, ltb-false, ltb-true, eqb-true}
use Rattle.std.proofs.lemmas.Bool.Decides.{nat_tests}
use mathlib.Core.Nat.{le_antisymm}
use mathlib.Core.List.Sublistᴰ
use mathlib.Core.List.{Sublistᴰ}
use lib.ListN.{length-map}
use borrow.Author.Tests.{eqb-false}
use Rattle.sheet.specs.Lists.{filterb}
use Rattle.sheet.proofs.Laws.{by_test}
use Rattle.distinct.specs.Rising.{insert, insert_all, rising, distinct}

-- z is in the list
abbrev pub In : ℕ → List ℕ → Type 0
In z [] = ⊥
In z (y ∷ ys) = (z ≡ y) ⊎ In z ys

-- the list rises, from b at the least
abbrev pub Above : ℕ → List ℕ → Type 0
Above b [] = Unit {0}
Above b (x ∷ xs) = (b ≤ x) × Above (suc x) xs

-- ---- one number put in
-- what holds in each of the three cases of `insert` holds of it
pub insert_cases : (P : List ℕ → Type 0) (x y : ℕ) (ys : List ℕ) → (x < y → P (x ∷ y ∷ ys)) → (x ≡ y → P (y ∷ ys)) → (y < x → P (y ∷ insert x ys)) → P (insert x (y ∷ ys))
insert_cases P x y ys before here after =
    by_test (ltb x y) (λ p. rw p (before (ltb-true x y p)))
    (λ p. by_test (eqb x y) (λ q. rw (p, q) (here (eqb-true x y q)))
    (λ q. rw (p, q) (after (later (ltb-false x y p) (eqb-false x y q)))))
  where
    later : y ≤ x → (x ≡ y → ⊥) → y < x
    later g n = omega arith

pub insert_above : (b x : ℕ) (l : List ℕ) → b ≤ x → Above b l → Above b (insert x l)
insert_above b x [] h a = (h, tt)
insert_above b x (y ∷ ys) h a =
    insert_cases (Above b) x y ys (λ p. (h, (p, a.1))) (λ _. a) (λ p. (a.0, insert_above (suc y) x ys p a.1))

pub in_insert : (z x : ℕ) (l : List ℕ) → In z (insert x l) → (z ≡ x) ⊎ In z l
in_insert z x [] = λ m. m
in_insert z x (y ∷ ys) =
    insert_cases (λ l. In z l → (z ≡ x) ⊎ In z (y ∷ ys)) x y ys (λ _ m. m) (λ _ m. inr m)
    (λ _. ⊎_elim (λ e. inr (inl e)) (λ m. ⊎_elim (λ e. inl e) (λ n. inr (inr n)) (in_insert z x ys m)))

pub insert_in : (z x : ℕ) (l : List ℕ) → (z ≡ x) ⊎ In z l → In z (insert x l)
insert_in z x [] m = m
insert_in z x (y ∷ ys) m =
    insert_cases (In z) x y ys (λ _. m) (λ q. ⊎_elim (λ e. inl (e ∙ q)) (λ n. n) m)
    (λ _. ⊎_elim (λ e. inr (insert_in z x ys (inl e))) (⊎_elim (λ e. inl e) (λ n. inr (insert_in z x ys (inr n)))) m)

insert_length : (x : ℕ) (l : List ℕ) → length (insert x l) ≤ suc (length l)
insert_length x [] = omega arith
insert_length x (y ∷ ys) = grind (arith, nat_tests, insert_length x ys)

-- ---- all of them put in
all_above : (s xs : List ℕ) → Above 0 s → Above 0 (insert_all s xs)
all_above s [] a = a
all_above s (x ∷ xs) a = all_above (insert x s) xs (insert_above 0 x s (omega arith) a)

in_all : (z : ℕ) (s xs : List ℕ) → In z (insert_all s xs) → In z s ⊎ In z xs
in_all z s [] m = inl m
in_all z s (x ∷ xs) m =
    ⊎_elim (λ n. ⊎_elim (λ e. inr (inl e)) (λ o. inl o) (in_insert z x s n)) (λ n. inr (inr n)) (in_all z (insert x s) xs m)

all_in : (z : ℕ) (s xs : List ℕ) → In z s ⊎ In z xs → In z (insert_all s xs)
all_in z s [] m = ⊎_elim (λ n. n) (λ n. absurd n) m
all_in z s (x ∷ xs) m =
    all_in z (insert x s) xs
    (⊎_elim (λ n. inl (insert_in z x s (inr n))) (⊎_elim (λ e. inl (insert_in z x s (inl e))) (λ n. inr n)) m)

all-length : (s xs : List ℕ) → length (insert_all s xs) ≤ length s + length xs
all-length s [] = omega arith
all-length s (x ∷ xs) = omega (arith, insert_length x s, all-length (insert x s) xs)

pub rising_above : (xs : List ℕ) → Above 0 (rising xs)
rising_above xs = all_above [] xs tt

pub in_rising : (z : ℕ) (xs : List ℕ) → In z (rising xs) → In z xs
in_rising z xs m = ⊎_elim (λ n. absurd n) (λ n. n) (in_all z [] xs m)

pub rising_in : (z : ℕ) (xs : List ℕ) → In z xs → In z (rising xs)
rising_in z xs m = all_in z [] xs (inr m)

pub distinct_length : (xs : List ℕ) → distinct xs ≤ length xs
distinct_length xs = omega (arith, all-length [] xs)

-- ---- a rising list is known by its members
pub in_above : (b z : ℕ) (l : List ℕ) → Above b l → In z l → b ≤ z
in_above b z [] a m = absurd m
in_above b z (x ∷ xs) a (inl e) = let g = a.0 in omega arith
in_above b z (x ∷ xs) a (inr m) = let g = a.0 in omega (arith, in_above (suc x) z xs a.1 m)

-- a member of a rising list other than its first is past it
past : (b y z : ℕ) (ys : List ℕ) → y < b → b ≤ z → In z (y ∷ ys) → In z ys
past b y z ys h g (inl e) = absurd (omega arith)
past b y z ys h g (inr m) = m

part : (ys xs : List ℕ) (b : ℕ) → Above b xs → Above b ys → ((z : ℕ) → In z xs → In z ys) → Sublistᴰ xs ys
part ys [] b p q h = Sublistᴰ.nil-sublist ys
part [] (x ∷ xs) b p q h = absurd (h x (inl refl))
part (y ∷ ys) (x ∷ xs) b p q h =
    ⊎_elim
    (λ e. Sublistᴰ.cons-cons e (part ys xs (suc y) (rw e at p.1) q.1
    (λ z m. past (suc x) y z ys (omega arith) (in_above (suc x) z xs p.1 m) (h z (inr m)))))
    (λ m. let k = in_above (suc y) x ys q.1 m in
    Sublistᴰ.cons (part ys (x ∷ xs) (suc y) (k, p.1) q.1
    (λ z n. past (suc y) y z ys (omega arith) (in_above (suc y) z (x ∷ xs) (k, p.1) n) (h z n))))
    (h x (inl refl))

pub same : (xs ys : List ℕ) → Above 0 xs → Above 0 ys → ((z : ℕ) → In z xs → In z ys) → ((z : ℕ) → In z ys → In z xs) → xs ≡ ys
same xs ys p q h g =
    let s = part ys xs 0 p q h in
    Sublistᴰ.eq_of_length s (le_antisymm (Sublistᴰ.length-le s) (Sublistᴰ.length-le (part xs ys 0 q p g)))

sublist_length : {xs ys : List ℕ} → Sublistᴰ xs ys → length xs ≤ length ys
sublist_length Sublistᴰ.slnil = omega arith
sublist_length (Sublistᴰ.cons s) = omega (arith, sublist_length s)
sublist_length (Sublistᴰ.cons-cons e s) = omega (arith, sublist_length s)

rising_all : (xs ys : List ℕ) → ((z : ℕ) → In z xs → In z ys) → (z : ℕ) → In z (rising xs) → In z (rising ys)
rising_all xs ys h z m = rising_in z ys (h z (in_rising z xs m))

module _ (xs ys : List ℕ) (h : (z : ℕ) → In z xs → In z ys) where
  pub rising_part : Sublistᴰ (rising xs) (rising ys)
  rising_part = part (rising ys) (rising xs) 0 (rising_above xs) (rising_above ys) (rising_all xs ys h)

  pub distinct_mono : distinct xs ≤ distinct ys
  distinct_mono = sublist_length rising_part

  pub rising_same : ((z : ℕ) → In z ys → In z xs) → rising xs ≡ rising ys
  rising_same g = same (rising xs) (rising ys) (rising_above xs) (rising_above ys) (rising_all xs ys h) (rising_all ys xs g)

-- ---- lists joined, and the numbers made from others
pub in_append : (z : ℕ) (xs ys : List ℕ) → In z (xs ++ ys) → In z xs ⊎ In z ys
in_append z [] ys m = inr m
in_append z (x ∷ xs) ys (inl e) = inl (inl e)
in_append z (x ∷ xs) ys (inr m) = ⊎_elim (λ n. inl (inr n)) (λ n. inr n) (in_append z xs ys m)

pub append_in : (z : ℕ) (xs ys : List ℕ) → In z xs ⊎ In z ys → In z (xs ++ ys)
append_in z [] ys m = ⊎_elim (λ n. absurd n) (λ n. n) m
append_in z (x ∷ xs) ys (inl (inl e)) = inl e
append_in z (x ∷ xs) ys (inl (inr m)) = inr (append_in z xs ys (inl m))
append_in z (x ∷ xs) ys (inr m) = inr (append_in z xs ys (inr m))

pub in_map : (f : ℕ → ℕ) (z a : ℕ) (l : List ℕ) → In a l → z ≡ f a → In z (map f l)
in_map f z a [] m e = m
in_map f z a (x ∷ xs) (inl p) e = inl (e ∙ ap f p)
in_map f z a (x ∷ xs) (inr m) e = inr (in_map f z a xs m e)

pub map_in : (f : ℕ → ℕ) (z : ℕ) (l : List ℕ) → In z (map f l) → (a : ℕ) × In a l × (z ≡ f a)
map_in f z [] m = absurd m
map_in f z (x ∷ xs) (inl e) = (x, inl refl, e)
map_in f z (x ∷ xs) (inr m) = let g = map_in f z xs m in (g.0, inr g.1, g.2)

pub distinct_image : (f : ℕ → ℕ) (xs ys : List ℕ) → ((z : ℕ) → In z xs → In z (map f ys)) → distinct xs ≤ distinct ys
distinct_image f xs ys h =
    let made : (z : ℕ) → In z xs → In z (map f (rising ys)) =
    λ z m. let g = map_in f z ys (h z m) in in_map f z g.0 (rising ys) (rising_in g.0 ys g.1) g.2 in
    omega (arith, distinct_mono xs (map f (rising ys)) made, distinct_length (map f (rising ys)), length-map (rising ys) f)

-- what is made from one number, however often it is there
pub rising_one : (f : ℕ → ℕ) (xs : List ℕ) → distinct xs ≤ 1 → rising (map f xs) ≡ map f (rising xs)
rising_one f xs h =
    same (rising (map f xs)) (map f (rising xs)) (rising_above (map f xs)) (short (rising xs) h)
    (λ z m. let g = map_in f z xs (in_rising z (map f xs) m) in in_map f z g.0 (rising xs) (rising_in g.0 xs g.1) g.2)
    (λ z m. let g = map_in f z (rising xs) m in rising_in z (map f xs) (in_map f z g.0 xs (in_rising g.0 xs g.1) g.2))
  where
    short : (l : List ℕ) → length l ≤ 1 → Above 0 (map f l)
    short [] h = tt
    short (a ∷ []) h = (omega arith, tt)
    short (a ∷ b ∷ l) h = absurd (omega arith)

-- ---- those that pass a test
module _ (p : ℕ → Bool) where
  pub filter_above : (b : ℕ) (l : List ℕ) → Above b l → Above b (filterb p l)
  filter_above b [] a = tt
  filter_above b (x ∷ xs) a =
      let h = filter_above (suc x) xs a.1 in
      by_test (p x) (λ e. rw e (a.0, h)) (λ e. rw e (lower b (suc x) (filterb p xs) (omega (arith, a.0)) h))
    where
      lower : (b c : ℕ) (l : List ℕ) → b ≤ c → Above c l → Above b l
      lower b c [] h a = tt
      lower b c (x ∷ xs) h a = (omega (arith, a.0), a.1)

  pub in_filter : (z : ℕ) (l : List ℕ) → In z (filterb p l) → In z l × (p z ≡ true)
  in_filter z [] m = absurd m
  in_filter z (x ∷ xs) m =
      let more : In z (filterb p xs) → In z (x ∷ xs) × (p z ≡ true) = λ n. let g = in_filter z xs n in (inr g.0, g.1) in
      by_test (p x) (λ e. ⊎_elim (λ q. (inl q, ap p q ∙ e)) more (rw e at m)) (λ e. more (rw e at m))

  pub filter_in : (z : ℕ) (l : List ℕ) → In z l → p z ≡ true → In z (filterb p l)
  filter_in z [] m t = m
  filter_in z (x ∷ xs) (inl e) t = rw (rw e at t) (inl e)
  filter_in z (x ∷ xs) (inr m) t = let g = filter_in z xs m t in by_test (p x) (λ e. rw e (inr g)) (λ e. rw e g)

  pub rising_filter : (xs : List ℕ) → filterb p (rising xs) ≡ rising (filterb p xs)
  rising_filter xs =
      same (filterb p (rising xs)) (rising (filterb p xs)) (filter_above 0 (rising xs) (rising_above xs)) (rising_above (filterb p xs))
      (λ z m. let g = in_filter z (rising xs) m in rising_in z (filterb p xs) (filter_in z xs (in_rising z xs g.0) g.1))
      (λ z m. let g = in_filter z xs (in_rising z (filterb p xs) m) in filter_in z (rising xs) (rising_in z xs g.0) g.1)
