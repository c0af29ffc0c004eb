-- Where two ways of reading the cells agree, so do the tables and the passes over them. Assumes nothing.
use Prim.Native.Nat.{ℕ, zero, suc, ◌+◌, ◌≤◌, ◌<◌}
use mathlib.Core.Path.{◌≡◌, refl}
use mathlib.Core.Bool.{Bool}
use mathlib.Core.List.{List}
use native.Mathlib.Omega.{arith}
use Rattle.exercise.specs.Record.{outputs}
use Rattle.exercise.specs.declared.Record.{Record}
use Rattle.tables.specs.declared.Reads.{Reads}
use Rattle.tables.specs.passes.Tables.{reads_below, readers_below, drivers_below, mark_each, double_from}

module _ (f g : ℕ → Record) where
  pub double_same : (t : List Bool) (i k : ℕ) → ((j : ℕ) → i ≤ j → j < i + k → f j ≡ g j) → double_from f t i k ≡ double_from g t i k
  unfolding double_from
  double_same t i zero h = refl
  double_same t i (suc k) h =
      rw (h i (omega arith) (omega arith), double_same (mark_each t (outputs (g i))) (suc i) k (λ j a b. h j (omega arith) (omega arith)))

  pub reads_same : (t : List Reads) (n : ℕ) → ((j : ℕ) → j < n → f j ≡ g j) → reads_below f t n ≡ reads_below g t n
  unfolding reads_below
  reads_same t zero h = refl
  reads_same t (suc n) h = rw (h n (omega arith), reads_same t n (λ j b. h j (omega arith)))

  module _ (t : List ℕ) where
    pub readers_same : (n : ℕ) → ((j : ℕ) → j < n → f j ≡ g j) → readers_below f t n ≡ readers_below g t n
    unfolding readers_below
    readers_same zero h = refl
    readers_same (suc n) h = rw (h n (omega arith), readers_same n (λ j b. h j (omega arith)))

    pub drivers_same : (n : ℕ) → ((j : ℕ) → j < n → f j ≡ g j) → drivers_below f t n ≡ drivers_below g t n
    unfolding drivers_below
    drivers_same zero h = refl
    drivers_same (suc n) h = rw (h n (omega arith), drivers_same n (λ j b. h j (omega arith)))
