-- Lists with the same elements in another order: as long, and the same by any test. Assumes nothing.
use Prim.Native.Nat.{suc}
use mathlib.Core.Path.{◌≡◌, refl, ap, ◌∙◌}
use mathlib.Core.Bool.{Bool, true, false, ◌||◌}
use mathlib.Core.List.{List, ◌∷◌, Permᴰ}
use lib.ListN.{length}
use Rattle.sheet.specs.Lists.{anyb, filterb}
use Rattle.sheet.proofs.Laws.{by_test}

or_swap : (x y z : Bool) → x || (y || z) ≡ y || (x || z)
or_swap true true z = refl
or_swap true false z = refl
or_swap false y z = refl

module _ {A : Type 0} where
  -- the library's lengths are on another ℕ
  pub length_order : (xs ys : List A) → Permᴰ xs ys → length xs ≡ length ys
  length_order xs ys Permᴰ.nil = refl
  length_order (a ∷ xs) (b ∷ ys) (Permᴰ.cons e p) = ap suc (length_order xs ys p)
  length_order (a ∷ b ∷ xs) (c ∷ d ∷ ys) (Permᴰ.swap e g) = refl
  length_order xs ys (Permᴰ.trans {l₂ = zs} p q) = length_order xs zs p ∙ length_order zs ys q

  module _ (t : A → Bool) where
    pub test_order : (xs ys : List A) → Permᴰ xs ys → anyb t xs ≡ anyb t ys
    test_order xs ys Permᴰ.nil = refl
    test_order (a ∷ xs) (b ∷ ys) (Permᴰ.cons e p) = rw (e, test_order xs ys p)
    test_order (a ∷ b ∷ xs) (c ∷ d ∷ ys) (Permᴰ.swap e g) = rw (e, g) (or_swap (t d) (t c) (anyb t ys))
    test_order xs ys (Permᴰ.trans {l₂ = zs} p q) = test_order xs zs p ∙ test_order zs ys q

    -- as many pass
    pub count_order : (xs ys : List A) → Permᴰ xs ys → length (filterb t xs) ≡ length (filterb t ys)
    count_order xs ys Permᴰ.nil = refl
    count_order (a ∷ xs) (b ∷ ys) (Permᴰ.cons e p) =
        let rest = count_order xs ys p in
        rw e (by_test (t b) (λ k. rw k (ap suc rest)) (λ k. rw k rest))
    count_order (a ∷ b ∷ xs) (c ∷ d ∷ ys) (Permᴰ.swap e g) =
        rw (e, g) (by_test (t c) (λ k. by_test (t d) (λ u. rw (k, u)) (λ u. rw (k, u))) (λ k. by_test (t d) (λ u. rw (k, u)) (λ u. rw (k, u))))
    count_order xs ys (Permᴰ.trans {l₂ = zs} p q) = count_order xs zs p ∙ count_order zs ys q
