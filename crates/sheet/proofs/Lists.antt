-- What tests, filters and tables say of lists that are put together, and of the numbers below n, one number more at a time. Assumes nothing.
use Prim.Native.Nat.{ℕ, zero, suc, ◌+◌, ◌≤◌, ◌<◌}
use mathlib.Core.Path.{◌≡◌, refl, sym, ap, ◌∙◌}
use mathlib.Core.Bool.{Bool, true, false, ◌&&◌, ◌||◌, or_assoc, or-false, or-true, true≢false}
use mathlib.Core.List.{List, [], ◌∷◌, ◌++◌, map, append_assoc, append-nil, map-append}
use native.Mathlib.Nat.{zero-add}
use native.Mathlib.Omega.{arith}
use lib.ListN.{length, get_or, set, drop, replicate, length-map, get_or-map}
use lib.Seq.{sets, sets-eq}
use lib.Dec.{eqb}
use borrow.Author.Tests.{eqb-true, eqb-false, eq-eqb, ne_eqb}
use Rattle.sheet.specs.Lists.{concat_map, filterb, anyb, from, below, elemb}
use Rattle.sheet.proofs.Laws.{by_test, or_parts}

-- ---- tests
-- of three tests, the one in the middle
pub or_middle : (a b c : Bool) → a || b || c ≡ false → b ≡ false
or_middle a b c h = (or_parts a b (or_parts (a || b) c h).0).1

pub eqb_comm : (a b : ℕ) → eqb a b ≡ eqb b a
eqb_comm a b =
    by_test (eqb a b) (λ e. rw (e, eq-eqb b a (sym (eqb-true a b e)))) (λ e. rw (e, ne_eqb b a (λ q. eqb-false a b e (sym q))))

-- ---- lists
module _ {A : Type 0} (p : A → Bool) where
  pub any_append : (xs ys : List A) → anyb p (xs ++ ys) ≡ anyb p xs || anyb p ys
  any_append [] ys = refl
  any_append (x ∷ xs) ys = rw (any_append xs ys) (sym (or_assoc (p x) (anyb p xs) (anyb p ys)))

  pub filter-append : (xs ys : List A) → filterb p (xs ++ ys) ≡ filterb p xs ++ filterb p ys
  filter-append [] ys = refl
  filter-append (x ∷ xs) ys = let h = filter-append xs ys in by_test (p x) (λ e. rw (e, h)) (λ e. rw (e, h))

  pub filter-length : (l : List A) → length (filterb p l) ≤ length l
  filter-length [] = omega arith
  filter-length (x ∷ xs) = let h = filter-length xs in by_test (p x) (λ e. rw e (omega arith)) (λ e. rw e (omega arith))

  pub any_same : (q : A → Bool) → ((x : A) → p x ≡ q x) → (xs : List A) → anyb p xs ≡ anyb q xs
  any_same q h [] = refl
  any_same q h (x ∷ xs) = rw (h x, any_same q h xs)

  pub filter_same : (q : A → Bool) → ((x : A) → p x ≡ q x) → (xs : List A) → filterb p xs ≡ filterb q xs
  filter_same q h [] = refl
  filter_same q h (x ∷ xs) = rw (h x, filter_same q h xs)

  pub filter_none : (xs : List A) → anyb p xs ≡ false → filterb p xs ≡ []
  filter_none [] f = refl
  filter_none (x ∷ xs) f = let g = or_parts (p x) (anyb p xs) f in rw g.0 (filter_none xs g.1)

  pub any_none : (q : A → Bool) → ((x : A) → p x ≡ false → q x ≡ false) → (xs : List A) → anyb p xs ≡ false → anyb q xs ≡ false
  any_none q h [] f = refl
  any_none q h (x ∷ xs) f = let g = or_parts (p x) (anyb p xs) f in rw (h x g.0) (any_none q h xs g.1)

-- as many of the images pass as there are elements whose image does
pub count_map : {A B : Type 0} (f : A → B) (p : B → Bool) (xs : List A) → length (filterb p (map f xs)) ≡ length (filterb (λ x. p (f x)) xs)
count_map f p [] = refl
count_map f p (x ∷ xs) = let rest = count_map f p xs in by_test (p (f x)) (λ t. rw t (ap suc rest)) (λ t. rw t rest)

pub any_and : {A : Type 0} (u : Bool) (p : A → Bool) (xs : List A) → anyb (λ x. u && p x) xs ≡ u && anyb p xs
any_and true p xs = refl
any_and false p [] = refl
any_and false p (x ∷ xs) = any_and false p xs

pub elem_first : (x : ℕ) (l : List ℕ) → elemb x (x ∷ l) ≡ true
elem_first x l = rw (eq-eqb x x refl)

pub elem_rest : (x y : ℕ) (l : List ℕ) → elemb x l ≡ true → elemb x (y ∷ l) ≡ true
elem_rest x y l m = rw (m, or-true (eqb x y))

pub filter_in : (p : ℕ → Bool) (x : ℕ) (l : List ℕ) → elemb x l ≡ true → p x ≡ true → elemb x (filterb p l) ≡ true
filter_in p x [] m h = m
filter_in p x (y ∷ l) m h =
    by_test (eqb x y) (λ e. rw (← eqb-true x y e, h) (elem_first x (filterb p l)))
    (λ e. let g = filter_in p x l (rw e at m) h in by_test (p y) (λ t. rw (t, e) g) (λ t. rw t g))

-- a list with an element that passes is not empty once filtered
pub filter_some : (p : ℕ → Bool) (x : ℕ) (l : List ℕ) → elemb x l ≡ true → p x ≡ true → 1 ≤ length (filterb p l)
filter_some p x l m h = go (filterb p l) (filter_in p x l m h)
  where
    go : (l : List ℕ) → elemb x l ≡ true → 1 ≤ length l
    go [] m = absurd (true≢false (sym m))
    go (y ∷ l) m = omega arith

-- within a list the value past its end does not matter
pub get_or_within : {A : Type 0} (l : List A) (n : ℕ) (d f : A) → n < length l → get_or l n d ≡ get_or l n f
get_or_within [] n d f h = absurd (omega arith)
get_or_within (x ∷ l) zero d f h = refl
get_or_within (x ∷ l) (suc n) d f h = get_or_within l n d f (omega arith)

-- a list of the same number throughout reads as it everywhere
pub get_or-all : {A : Type 0} (n k : ℕ) (a : A) → get_or (replicate n a) k a ≡ a
get_or-all zero k a = refl
get_or-all (suc n) zero a = refl
get_or-all (suc n) (suc k) a = get_or-all n k a

-- what is stored from a place on, and more right after it, is stored as one
pub sets_append : {A : Type 0} (l : List A) (at : ℕ) (a b : List A) → sets (sets l at a) (at + length a) b ≡ sets l at (a ++ b)
sets_append l at [] b = let e : at + 0 ≡ at = omega arith in rw e
sets_append l at (x ∷ a) b = let e : at + suc (length a) ≡ suc at + length a = omega arith in rw e (sets_append (set l at x) (suc at) a b)

-- one more is stored right behind them
pub store_behind : {A : Type 0} (lent xs : List A) (v : A) → set (sets lent 0 xs) (length xs) v ≡ sets lent 0 (xs ++ (v ∷ []))
store_behind lent xs v = let here : 0 + length xs ≡ length xs = omega arith in rw here at (sets_append lent 0 xs (v ∷ []))

-- what is stored from the first place on stands before what stays
pub sets_front : {A : Type 0} (lent xs : List A) → length xs ≤ length lent → sets lent 0 xs ≡ xs ++ drop (length xs) lent
sets_front lent xs h =
    let here : 0 + length xs ≡ length xs = omega arith in
    sets-eq xs lent 0 (omega arith) ∙ rw here

pub concat-append : {A B : Type 0} (f : A → List B) (xs ys : List A) → concat_map f (xs ++ ys) ≡ concat_map f xs ++ concat_map f ys
concat-append f [] ys = refl
concat-append f (x ∷ xs) ys = rw (concat-append f xs ys) (sym (append_assoc (f x) (concat_map f xs) (concat_map f ys)))

-- ---- one number more
from_suc : (i k : ℕ) → from i (suc k) ≡ from i k ++ ((i + k) ∷ [])
from_suc i zero = ap (λ (j : ℕ). j ∷ []) (omega arith)
from_suc i (suc k) = ap (λ (l : List ℕ). i ∷ l) (from_suc (suc i) k ∙ ap (λ (j : ℕ). from (suc i) k ++ (j ∷ [])) (omega arith))

pub below_suc : (n : ℕ) → below (suc n) ≡ below n ++ (n ∷ [])
below_suc n = from_suc 0 n ∙ rw (zero-add n)

pub any-suc : (p : ℕ → Bool) (n : ℕ) → anyb p (below (suc n)) ≡ anyb p (below n) || p n
any-suc p n = ap (anyb p) (below_suc n) ∙ any_append p (below n) (n ∷ []) ∙ rw (or-false (p n))

pub concat-suc : {B : Type 0} (f : ℕ → List B) (n : ℕ) → concat_map f (below (suc n)) ≡ concat_map f (below n) ++ f n
concat-suc f n = ap (concat_map f) (below_suc n) ∙ concat-append f (below n) (n ∷ []) ∙ rw (append-nil (f n))

pub map-suc : {A : Type 0} (g : ℕ → A) (n : ℕ) → map g (below (suc n)) ≡ map g (below n) ++ (g n ∷ [])
map-suc g n = ap (map g) (below_suc n) ∙ map-append g (below n) (n ∷ [])

-- ---- the numbers below n
from_length : (b n : ℕ) → length (from b n) ≡ n
from_length b zero = refl
from_length b (suc n) = ap suc (from_length (suc b) n)

pub below_length : (n : ℕ) → length (below n) ≡ n
below_length n = from_length 0 n

pub table_length : {A : Type 0} (g : ℕ → A) (n : ℕ) → length (map g (below n)) ≡ n
table_length g n = length-map (below n) g ∙ below_length n

from_at : (b n i : ℕ) → i < n → get_or (from b n) i 0 ≡ b + i
from_at b zero i h = absurd (omega arith)
from_at b (suc n) zero h = omega arith
from_at b (suc n) (suc i) h = from_at (suc b) n i (omega arith) ∙ omega arith

pub below_at : (n i : ℕ) → i < n → get_or (below n) i 0 ≡ i
below_at n i h = from_at 0 n i h ∙ omega arith

-- what a table of the numbers below n has at i
pub table_at : {A : Type 0} (g : ℕ → A) (d : A) (n i : ℕ) → i < n → get_or (map g (below n)) i d ≡ g i
table_at g d n i h =
    get_or_within (map g (below n)) i d (g 0) (rw (table_length g n) h) ∙ get_or-map g (below n) i 0 ∙ ap g (below_at n i h)

-- a test of all elements, by their numbers
any_shift : (f : ℕ → Bool) (i k : ℕ) → anyb f (from (suc i) k) ≡ anyb (λ j. f (suc j)) (from i k)
any_shift f i zero = refl
any_shift f i (suc k) = rw (any_shift f (suc i) k)

pub any-get_or : {A : Type 0} (p : A → Bool) (d : A) (xs : List A) → anyb (λ i. p (get_or xs i d)) (below (length xs)) ≡ anyb p xs
any-get_or p d [] = refl
any-get_or p d (x ∷ xs) = rw (any_shift (λ i. p (get_or (x ∷ xs) i d)) 0 (length xs), any-get_or p d xs)
