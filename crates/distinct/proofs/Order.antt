-- The numbers that the elements of a list bring, in another order: the same distinct ones, and the same members. Assumes nothing.
use Rattle.std.proofs.Common.{◌≡◌, ℕ, List, ◌∷◌, ◌++◌, inl, inr, ⊎_elim}
use mathlib.Core.List.Permᴰ
use mathlib.Core.List.{Permᴰ}
use Rattle.sheet.specs.Lists.{concat_map, elemb}
use Rattle.sheet.proofs.Laws.{same_truth}
use Rattle.distinct.specs.Rising.{rising}
use Rattle.distinct.proofs.Rising.{In, in_append, append_in, rising_same}
use Rattle.distinct.proofs.Nets.{elem_in, in_elem}

module _ {A : Type 0} (f : A → List ℕ) where
  brings : (xs ys : List A) → Permᴰ xs ys → (z : ℕ) → In z (concat_map f xs) → In z (concat_map f ys)
  brings xs ys Permᴰ.nil z m = m
  brings (a ∷ xs) (b ∷ ys) (Permᴰ.cons e p) z m =
      append_in z (f b) (concat_map f ys)
      (⊎_elim (λ n. inl (rw (← e) n)) (λ n. inr (brings xs ys p z n)) (in_append z (f a) (concat_map f xs) m))
  brings (a ∷ b ∷ xs) (c ∷ d ∷ ys) (Permᴰ.swap e g) z m =
      append_in z (f c) (f d ++ concat_map f ys)
      (⊎_elim (λ n. inr (append_in z (f d) (concat_map f ys) (inl (rw (← e) n))))
      (λ n. ⊎_elim (λ o. inl (rw (← g) o)) (λ o. inr (append_in z (f d) (concat_map f ys) (inr o))) (in_append z (f b) (concat_map f xs) n))
      (in_append z (f a) (f b ++ concat_map f xs) m))
  brings xs ys (Permᴰ.trans {l₂ = zs} p q) z m = brings zs ys q z (brings xs zs p z m)

  module _ (xs ys : List A) (p : Permᴰ xs ys) where
    pub rising_brought : rising (concat_map f xs) ≡ rising (concat_map f ys)
    rising_brought = rising_same (concat_map f xs) (concat_map f ys) (brings xs ys p) (brings ys xs (Permᴰ.symm p))

    pub elem_brought : (z : ℕ) → elemb z (concat_map f xs) ≡ elemb z (concat_map f ys)
    elem_brought z =
        same_truth (elemb z (concat_map f xs)) (elemb z (concat_map f ys))
        (λ q. in_elem z (concat_map f ys) (brings xs ys p z (elem_in z (concat_map f xs) q)))
        (λ q. in_elem z (concat_map f xs) (brings ys xs (Permᴰ.symm p) z (elem_in z (concat_map f ys) q)))
