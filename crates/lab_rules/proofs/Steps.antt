-- What one function after the other adds to the counters and the needs of a LAB is what one list of them adds. Assumes nothing.
use Prim.Native.Nat.{ℕ, ◌+◌, ◌≤◌}
use mathlib.Core.Path.{◌≡◌, refl, ◌∙◌}
use mathlib.Core.List.{List, [], ◌∷◌, ◌++◌, map, append-nil, append_assoc}
use native.Mathlib.Omega.{arith}
use lib.ListN.{length, length-append, length-map}
use Rattle.exercise.specs.declared.RegisterCell.{RegisterCell}
use Rattle.exercise.specs.declared.Record.{Record}
use Rattle.exercise.specs.declared.Record.TheVariants.{Combinational, Register, Malformed}
use Rattle.sheet.proofs.Lists.{filter-length}
use Rattle.distinct.specs.declared.UpToTwo.{UpToTwo}
use Rattle.distinct.specs.declared.UpToTwo.TheVariants.{Empty, One, Two, More}
use Rattle.distinct.specs.passes.UpToTwo.{with_codes, codes_of}
use Rattle.entries.specs.declared.Need.{Need}
use Rattle.entries.specs.declared.Needs.{Needs}
use Rattle.entries.specs.Table.{CLK, ENA, ACLR, SCLR, SLOAD, with_need, needs_of, no_needs}
use Rattle.entries.proofs.NeedLists.{no_needs_of, with_need_lem}
use Rattle.lab_rules.specs.declared.Counts.{Counts}
use Rattle.lab_rules.specs.Rules.{needs_of_role}
use Rattle.lab_rules.specs.passes.Counts.{counts_with, net_codes, only_code, first, second, with_needs, needs_held}

-- ---- counters
-- to a cell that is no register nothing counts
pub no_register : (k : Counts) (c : Record) → ((r : RegisterCell) → c ≡ Register r → ⊥) → k ≡ counts_with k c
unfolding counts_with with_codes
no_register k (Register r) h = absurd (h r refl)
no_register k (Combinational c) h = refl
no_register k Malformed h = refl

-- ---- needs
needs_append : (n : Needs) (xs ys : List Need) → with_needs n (xs ++ ys) ≡ with_needs (with_needs n xs) ys
unfolding with_needs
needs_append n [] ys = refl
needs_append n (x ∷ xs) ys = needs_append (with_need n x) xs ys

needs_of_lem : (ns xs : List Need) → length ns + length xs ≤ 8 → with_needs (needs_of ns) xs ≡ needs_of (ns ++ xs)
unfolding with_needs
needs_of_lem ns [] h = rw append-nil
needs_of_lem ns (x ∷ xs) h = rw (with_need_lem ns x (omega arith)) (needs_of_lem (ns ++ x ∷ []) xs (rw length-append (omega arith)) ∙ rw append_assoc)

role_length : (role : ℕ) (codes : List ℕ) → length (needs_of_role role (net_codes codes)) ≤ length codes
role_length role codes = rw length-map (filter-length _ codes)

codes_length : (d : UpToTwo) → length (codes_of d) ≤ 2
unfolding codes_of
codes_length Empty = omega arith
codes_length (One a) = omega arith
codes_length (Two a b) = omega arith
codes_length More = omega arith

only_length : (half : ℕ → ℕ) (d : UpToTwo) → length (map half (only_code d)) ≤ 1
unfolding only_code
only_length half Empty = omega arith
only_length half (One a) = omega arith
only_length half (Two a b) = omega arith
only_length half More = omega arith

pub held_fits : (k : Counts) → length (needs_held k) ≤ 8
unfolding needs_held
held_fits k =
    simp length-append
    (omega (
      arith,
      role_length 0 (codes_of k.clocks),
      codes_length k.clocks,
      role_length 1 (codes_of k.enables),
      codes_length k.enables,
      role_length 2 (codes_of k.clears),
      codes_length k.clears,
      role_length 3 (map second (only_code k.synchronous)),
      role_length 4 (map first (only_code k.synchronous)),
      only_length second k.synchronous,
      only_length first k.synchronous,
    ))

held_of : (k : Counts) → with_needs no_needs (needs_held k) ≡ needs_of (needs_held k)
held_of k = rw no_needs_of (needs_of_lem [] (needs_held k) (omega (arith, held_fits k)))

-- the needs of each role after those of the roles before it
module _ (k : Counts) {n₀ n₁ n₂ n₃ n₄ : Needs} where
  pub needs_are : n₀ ≡ no_needs
      → n₁ ≡ with_needs n₀ (needs_of_role CLK (net_codes (codes_of k.clocks)))
      → n₂ ≡ with_needs n₁ (needs_of_role ENA (net_codes (codes_of k.enables)))
      → n₃ ≡ with_needs n₂ (needs_of_role ACLR (net_codes (codes_of k.clears)))
      → n₄ ≡ with_needs (with_needs n₃ (needs_of_role SCLR (net_codes (map second (only_code k.synchronous))))) (needs_of_role SLOAD (net_codes (map first (only_code k.synchronous))))
      → n₄ ≡ needs_of (needs_held k)
  unfolding needs_held
  needs_are h₀ h₁ h₂ h₃ h₄ = rw (← held_of k) (simp needs_append (rw (h₄, h₃, h₂, h₁, h₀) refl))
