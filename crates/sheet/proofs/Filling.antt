-- A loop fills a list from the front: below k the elements are those of a rule, and at the end all of them are. Assumes nothing.
use Prim.Native.Nat.{ℕ, zero, suc, ◌+◌, ◌<◌, ◌≤◌}
use native.Mathlib.Nat.{not-suc-le-zero, le_of_suc-le-suc}
use native.Mathlib.Omega.{arith}
use mathlib.Core.Path.{◌≡◌, refl, sym, ap, ◌∙◌}
use mathlib.Core.List.{List, [], ◌∷◌}
use lib.ListN.{length, get_or, set, length-set}
use lib.Seq.{get_or-set_same, get_or-set_other, ext_get_or}
use lib.Dec.{ltb}
use borrow.Author.Count.{below_more}
use borrow.Author.Tests.{ltb-true, ltb-false}
use Rattle.sheet.proofs.Laws.{by_test}

-- g i, g (i + 1), .. of k numbers
unfoldable pub row_from : (ℕ → ℕ) → ℕ → ℕ → List ℕ
row_from g i zero = []
row_from g i (suc k) = g i ∷ row_from g (suc i) k

pub row_length : (g : ℕ → ℕ) (i n : ℕ) → length (row_from g i n) ≡ n
unfolding row_from
row_length g i zero = refl
row_length g i (suc n) = ap suc (row_length g (suc i) n)

pub row_at_lem : (g : ℕ → ℕ) (i n k : ℕ) → k < n → get_or (row_from g i n) k 0 ≡ g (i + k)
unfolding row_from
row_at_lem g i zero k h = absurd (not-suc-le-zero h)
row_at_lem g i (suc n) zero h = ap g (omega arith)
row_at_lem g i (suc n) (suc k) h = row_at_lem g (suc i) n k (le_of_suc-le-suc h) ∙ ap g (omega arith)

-- l was l₀, and only its first k elements were stored to: they are now g 0, g 1, ..
pub record Written (g : ℕ → ℕ) (l₀ l : List ℕ) (k : ℕ) : Type 0 where
  pub long : length l ≡ length l₀
  pub within : k ≤ length l₀
  pub done : (j : ℕ) → j < k → get_or l j 0 ≡ g j
  pub rest : (j : ℕ) → k ≤ j → get_or l j 0 ≡ get_or l₀ j 0

pub write_starts : (g : ℕ → ℕ) (l : List ℕ) → Written g l l 0
write_starts g l = record { long = refl; within = omega arith; done = λ j h. absurd (not-suc-le-zero h); rest = λ j h. refl }

pub write_goes : (g : ℕ → ℕ) (l₀ l : List ℕ) (k v : ℕ) → Written g l₀ l k → k < length l → v ≡ g k → Written g l₀ (set l k v) (k + 1)
write_goes g l₀ l k v w h e =
    record {
      long = length-set l k v ∙ w.long;
      within = omega arith;
      done =
          below_more (λ (j : ℕ). get_or (set l k v) j 0 ≡ g j) k
          (λ j b. get_or-set_other l k j v 0 (λ q. omega arith) ∙ w.done j b)
          (get_or-set_same l k v 0 h ∙ e);
      rest = λ j b. get_or-set_other l k j v 0 (λ q. omega arith) ∙ w.rest j (omega arith);
    }

-- the elements from k to m are left, and are the rule's as they were
pub write_left : (g : ℕ → ℕ) (l₀ l : List ℕ) (k m : ℕ) → Written g l₀ l k → k ≤ m → m ≤ length l₀
    → ((j : ℕ) → k ≤ j → j < m → get_or l₀ j 0 ≡ g j) → Written g l₀ l m
write_left g l₀ l k m w h b same =
    record {
      long = w.long;
      within = b;
      done = λ j u. by_test (ltb j k) (λ t. w.done j (ltb-true j k t)) (λ t. let past = ltb-false j k t in w.rest j past ∙ same j past u);
      rest = λ j u. w.rest j (omega arith);
    }

pub write_ends : (g : ℕ → ℕ) (l₀ l : List ℕ) (k : ℕ) → Written g l₀ l k → length l ≤ k → l ≡ row_from g 0 (length l₀)
write_ends g l₀ l k w h =
    ext_get_or 0 l (row_from g 0 (length l₀)) (w.long ∙ sym (row_length g 0 (length l₀)))
    (λ i b.
    w.done i (omega arith)
    ∙ sym (row_at_lem g 0 (length l₀) i (omega arith) ∙ ap g (omega arith)))

-- the rule is a list's own elements: the list is copied
pub copy_ends : (l₀ l m : List ℕ) (k : ℕ) → Written (λ j. get_or m j 0) l₀ l k → length l ≤ k → length m ≡ length l₀ → l ≡ m
copy_ends l₀ l m k w h e = ext_get_or 0 l m (w.long ∙ sym e) (λ i b. w.done i (omega arith))
