-- A counter as three numbers: how many codes, 0 to 2 and any other for more, and two codes, of which as many count. Whatever the numbers, what is made of
-- the counter's image is the image of what would be made of the counter. Assumes nothing.
use Prim.Native.Nat.{ℕ, zero, suc, ◌≤◌}
use mathlib.Core.Path.{◌≡◌, refl, sym, ◌∙◌}
use mathlib.Core.Bool.{Bool, true, false, cond}
use mathlib.Core.List.{List, [], ◌∷◌}
use native.Mathlib.Omega.{arith}
use lib.Dec.{ltb}
use borrow.Author.Tests.{lt-ltb}
use Rattle.std.proofs.Common.{rules}
use Rattle.std.specs.Prelude.{◌==◌, nat_lt}
use Rattle.sheet.proofs.Laws.{by_test}
use Rattle.distinct.specs.declared.UpToTwo.{UpToTwo}
use Rattle.distinct.specs.declared.UpToTwo.TheVariants.{Empty, One, Two, More}
use Rattle.distinct.specs.passes.UpToTwo.{with_code, codes_of, count_of}

pub record Counter : Type 0 where
  pub count : ℕ
  pub low : ℕ
  pub high : ℕ

abbrev pub variant : ℕ → ℕ → ℕ → UpToTwo
variant zero low high = Empty
variant (suc zero) low high = One low
variant (suc (suc zero)) low high = Two low high
variant (suc (suc (suc n))) low high = More

abbrev pub image : Counter → UpToTwo
image d = variant d.count d.low d.high

abbrev no_code : Counter
no_code = record { count = 0; low = 0; high = 0 }

abbrev one_code : ℕ → Counter
one_code a = record { count = 1; low = a; high = 0 }

abbrev two_codes : ℕ → ℕ → Counter
two_codes a b = record { count = 2; low = a; high = b }

abbrev many_codes : Counter
many_codes = record { count = 3; low = 0; high = 0 }

-- one code more, and the codes that it holds, of three numbers
unfoldable pub counter_with : ℕ → ℕ → ℕ → ℕ → Counter
counter_with zero low high x = one_code x
counter_with (suc zero) low high x = cond (x == low) (record { count = 1; low = low; high = high }) (cond (nat_lt x low) (two_codes x low) (two_codes low x))
counter_with (suc (suc zero)) low high x = cond (x == low) (two_codes low high) (cond (x == high) (two_codes low high) many_codes)
counter_with (suc (suc (suc n))) low high x = many_codes

pub with_image : (n low high x : ℕ) → with_code (variant n low high) x ≡ image (counter_with n low high x)
unfolding with_code counter_with
with_image zero low high x = refl
with_image (suc zero) low high x =
    by_test (x == low) (λ e. rw e) (λ e. by_test (nat_lt x low) (λ f. rw (e, f)) (λ f. rw (e, f)))
with_image (suc (suc zero)) low high x =
    by_test (x == low) (λ e. rw e) (λ e. by_test (x == high) (λ f. rw (e, f)) (λ f. rw (e, f)))
with_image (suc (suc (suc n))) low high x = refl

-- it holds the codes that count, and as many are too many
pub codes_image : (n low high : ℕ) → codes_of (variant n low high) ≡ cond (n == 0) [] (cond (n == 1) (low ∷ []) (cond (n == 2) (low ∷ high ∷ []) []))
unfolding codes_of
codes_image zero low high = refl
codes_image (suc zero) low high = refl
codes_image (suc (suc zero)) low high = refl
codes_image (suc (suc (suc n))) low high = search rules

pub over_image : (n low high m : ℕ) → m ≤ 2 → ltb m (count_of (variant n low high)) ≡ ltb m n
over_image zero low high m h = refl
over_image (suc zero) low high m h = refl
over_image (suc (suc zero)) low high m h = refl
over_image (suc (suc (suc n))) low high m h = lt-ltb m 3 (omega arith) ∙ sym (lt-ltb m (suc (suc (suc n))) (omega arith))
