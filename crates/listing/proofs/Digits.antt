-- The last digit is the remainder by ten, and the digits before it are those of the quotient; so the digits say the number. Assumes nothing.
use Prim.Native.Nat.{ℕ, zero, suc, ◌+◌, ◌-◌, ◌*◌, ◌/◌, ◌%◌, ◌^◌, ◌≤◌, ◌<◌}
use mathlib.Core.Path.{◌≡◌, refl}
use mathlib.Core.List.{List, [], ◌∷◌, ◌++◌}
use native.Mathlib.Omega.{arith}
use native.Mathlib.Nat.{pow-suc}
use borrow.Author.Tests.{lt-ltb, le-ltb, ltb-true, ltb-false}
use lib.Dec.{ltb}
use lib.ListN.{length, length-append}
use Rattle.sheet.proofs.Laws.{by_test}
use Rattle.listing.specs.declared.Page.{Page}
use Rattle.listing.specs.Text.{digit, digits, decimal, value_after, value_of}
use Rattle.listing.specs.passes.Writes.{Writes}
use Rattle.listing.proofs.Writing.{◌then◌, within}

-- how many digits are allowed for does not matter
digits_same : (j k n : ℕ) → n ≤ j → n ≤ k → digits j n ≡ digits k n
unfolding digits
digits_same zero zero n h i = refl
digits_same zero (suc k) n h i = let z : n ≡ 0 = omega arith in rw z
digits_same (suc j) zero n h i = let z : n ≡ 0 = omega arith in rw z
digits_same (suc j) (suc k) n h i =
    by_test (ltb n 10) (λ t. rw t)
    (λ t. let more = ltb-false n 10 t in rw (t, digits_same j k (n / 10) (omega arith) (omega arith)))

decimal_one : (n : ℕ) → n < 10 → decimal n ≡ digit n ∷ []
unfolding decimal digits
decimal_one zero h = refl
decimal_one (suc n) h = rw (lt-ltb (suc n) 10 h)

decimal_more : (n : ℕ) → 10 ≤ n → decimal n ≡ decimal (n / 10) ++ digit (n % 10) ∷ []
unfolding decimal digits
decimal_more zero h = absurd (omega arith)
decimal_more (suc n) h = rw (le-ltb (suc n) 10 h, digits_same n (suc n / 10) (suc n / 10) (omega arith) (omega arith))

-- a number below a power of ten has no more digits than that
digits_few : (j k n : ℕ) → n < 10 ^ suc j → length (digits k n) ≤ suc j
unfolding digits
digits_few j zero n h = omega arith
digits_few zero (suc k) n h = rw (lt-ltb n 10 h) (omega arith)
digits_few (suc j) (suc k) n h =
    by_test (ltb n 10) (λ t. rw t (omega arith))
    (λ t.
    let small : n / 10 < 10 ^ suc j = omega (arith, pow-suc 10 (suc j)) in
    rw t (omega (arith, digits_few j k (n / 10) small, length-append (digits k (n / 10)) (digit (n % 10) ∷ []))))

decimal_few : (n : ℕ) → n < 2 ^ 32 → length (decimal n) ≤ 10
unfolding decimal
decimal_few n h = digits_few 9 n n (omega arith)

-- ---- the two ways out of `number`
pub one_digit : {p q : Page} (n : ℕ) → n < 10 → Writes p (digit (n % 10) ∷ []) 1 q → Writes p (decimal n) 10 q
one_digit n h w = let same : n % 10 ≡ n = omega arith in rw (decimal_one n h) (within 10 (omega arith) (rw same at w))

pub more_digits : {p q r : Page} (n : ℕ) → 10 ≤ n → n < 2 ^ 32 → Writes p (decimal (n / 10)) 10 q → Writes q (digit (n % 10) ∷ []) 1 r
    → Writes p (decimal n) 10 r
more_digits {p} {q} {r} n h b v w =
    let both : Writes p (decimal n) 11 r = rw (decimal_more n h) (v then w) in
    record { stored = both.stored; past = both.past; short = omega (arith, both.past, decimal_few n b); same_reference = both.same_reference }

-- ---- the digits say the number
value_last : (ds : List ℕ) (m d : ℕ) → value_after m (ds ++ d ∷ []) ≡ 10 * value_after m ds + (d - 48)
value_last [] m d = refl
value_last (x ∷ ds) m d = value_last ds (10 * m + (x - 48)) d

value_below : (k n : ℕ) → n < k → value_of (decimal n) ≡ n
value_below zero n h = absurd (omega arith)
value_below (suc k) n h =
    by_test (ltb n 10)
    (λ t. rw (decimal_one n (ltb-true n 10 t)) (omega arith))
    (λ t.
    let more = ltb-false n 10 t in
    rw (decimal_more n more, value_last (decimal (n / 10)) 0 (digit (n % 10)), value_below k (n / 10) (omega arith)) (omega arith))

-- THE LAW of decimal numbers: the digits read back as the number
pub decimal_reads_back : (n : ℕ) → value_of (decimal n) ≡ n
decimal_reads_back n = value_below (suc n) n (omega arith)
