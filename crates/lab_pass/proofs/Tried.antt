-- The list of tries that is filled LAB by LAB, those of LABs without cells left at 0, has the tries of each LAB below k and 0 from there on.
-- Assumes nothing.
use Prim.Native.Nat.{ℕ, zero, suc, ◌<◌, ◌≤◌}
use mathlib.Core.Path.{◌≡◌, refl, sym, ap, ◌∙◌}
use mathlib.Core.Bool.{Bool, false, cond}
use mathlib.Core.List.{List, map}
use native.Mathlib.Numerals.{add-one}
use native.Mathlib.Omega.{arith}
use lib.ListN.{length, get_or, replicate, length-set, length-replicate}
use lib.Seq.{ext_get_or}
use lib.Dec.{ltb}
use borrow.Author.Tests.{ltb-true, ltb-false}
use Rattle.sheet.specs.Lists.{below}
use Rattle.sheet.proofs.Laws.{by_test}
use Rattle.sheet.proofs.Lists.{get_or-all, table_length, table_at}
use Rattle.lab_pass.specs.passes.Results.{put_tries}
use Rattle.sheet.proofs.Filling.{Written, write_starts, write_goes, write_left}

module _ (some : ℕ → Bool) (tries : ℕ → ℕ) (n : ℕ) where
  abbrev zeros : List ℕ
  zeros = replicate n 0

  abbrev filled : ℕ → List ℕ
  filled k = put_tries some tries zeros k

  pub filled_long : (k : ℕ) → length (filled k) ≡ n
  unfolding put_tries
  filled_long zero = length-replicate n 0
  filled_long (suc k) = by_test (some k) (λ t. rw (t, length-set (filled k) k (tries k)) (filled_long k)) (λ t. rw t (filled_long k))

  filled_goes : (k : ℕ) → k ≤ n → ((i : ℕ) → i < k → some i ≡ false → tries i ≡ 0) → Written tries zeros (filled k) k
  unfolding put_tries
  filled_goes zero h empty = write_starts tries zeros
  filled_goes (suc k) h empty =
      let w = filled_goes k (omega arith) (λ i b. empty i (omega arith)) in
      by_test (some k)
      (λ t. rw (t, ← add-one k) (write_goes tries zeros (filled k) k (tries k) w (omega (arith, filled_long k)) refl))
      (λ t. rw t (write_left tries zeros (filled k) k (suc k) w (omega arith) (omega (arith, length-replicate {A = ℕ} n 0))
      (λ j a b. let at : j ≡ k = omega arith in get_or-all n j 0 ∙ sym (ap tries at ∙ empty k (omega arith) t))))

  -- the list as a table, from what each number is
  pub tries_put : (k : ℕ) → k ≤ n → ((i : ℕ) → i < k → some i ≡ false → tries i ≡ 0) → (g : ℕ → ℕ) → ((l : ℕ) → l < n → cond (ltb l k) (tries l) 0 ≡ g l)
      → put_tries some tries (replicate n 0) k ≡ map g (below n)
  tries_put k h empty g same =
      ext_get_or 0 (filled k) (map g (below n)) (filled_long k ∙ sym (table_length g n))
      (λ j b.
      let l : j < n = omega (arith, filled_long k) in
      filled_at j ∙ same j l ∙ sym (table_at g 0 n j l))
    where
      filled_at : (j : ℕ) → get_or (filled k) j 0 ≡ cond (ltb j k) (tries j) 0
      filled_at j =
          let w = filled_goes k h empty in
          by_test (ltb j k) (λ t. rw t (w.done j (ltb-true j k t))) (λ t. rw t (w.rest j (ltb-false j k t) ∙ get_or-all n j 0))
