-- What is in use at sload and at sclr is told by the two codes of the pairs, so a LAB with one pair has one signal at each. Assumes nothing.
use Rattle.std.proofs.lemmas.Bool.Decides.{nat_tests}
use Prim.Native.Nat.{ℕ, ◌≤◌, ◌<◌}
use mathlib.Core.Path.{◌≡◌, refl, sym, ap, ◌∙◌}
use mathlib.Core.Bool.{false, cond, ◌||◌}
use mathlib.Core.List.{List, [], ◌∷◌, map, map-append}
use native.Mathlib.Omega.{arith}
use borrow.Author.Tests.{ltb-false, le-ltb}
use Rattle.sheet.specs.Lists.{filterb, Every}
use Rattle.exercise.specs.declared.RegisterCell.{RegisterCell}
use Rattle.exercise.specs.declared.Record.{Record}
use Rattle.exercise.specs.declared.Record.TheVariants.{Register}
use Rattle.sheet.proofs.Laws.{or_parts}
use Rattle.sheet.proofs.Lists.{filter-append}
use Rattle.distinct.specs.Rising.{rising, distinct}
use Rattle.distinct.proofs.Rising.{distinct_image, in_filter, rising_filter, rising_one}
use Rattle.lab_rules.specs.Ports.{sclr, sload, pair, in_use, fixed, pair_in_use, synchronous, in_lab}
use Rattle.lab_rules.specs.Rules.{too_many_synchronous}
use Rattle.lab_rules.specs.Stricter.{used_at, too_many_apart, SixteenBits, Stricter}
use Rattle.lab_rules.specs.passes.Counts.{first, second}
use Rattle.lab_rules.proofs.InLab.{lab_made}

-- ---- one register
fixed_used : (s : ℕ) → filterb in_use (fixed s ∷ []) ≡ cond (in_use s) (s ∷ []) []
fixed_used s = grind (arith, nat_tests)

fixed_small : (s : ℕ) → s < 65536 → fixed s < 65536
fixed_small s h = grind (arith, nat_tests)

first_of : (a b : ℕ) → b < 65536 → first (pair a b) ≡ a
first_of a b h = omega arith

pub second_of : (a b : ℕ) → b < 65536 → second (pair a b) ≡ b
second_of a b h = omega arith

-- `half` of a register's pair tells what is in use at `port`
abbrev pub Half : (ℕ → ℕ) → (RegisterCell → ℕ) → Type 0
Half half port = (r : RegisterCell) → SixteenBits (Register r) → filterb in_use (map half (synchronous r)) ≡ used_at port r

module _ (half : ℕ → ℕ) (port : RegisterCell → ℕ) (r : RegisterCell) where
  half_used : half (pair (fixed (sload r)) (fixed (sclr r))) ≡ fixed (port r) → (in_use (sload r) || in_use (sclr r) ≡ false → in_use (port r) ≡ false)
      → filterb in_use (map half (synchronous r)) ≡ used_at port r
  unfolding pair_in_use used_at
  half_used q none = grind (arith, nat_tests)

pub sclr_half : Half second sclr
sclr_half r s =
    half_used second sclr r (second_of (fixed (sload r)) (fixed (sclr r)) (fixed_small (sclr r) s.0))
    (λ e. (or_parts (in_use (sload r)) (in_use (sclr r)) e).1)

pub sload_half : Half first sload
sload_half r s =
    half_used first sload r (first_of (fixed (sload r)) (fixed (sclr r)) (fixed_small (sclr r) s.0))
    (λ e. (or_parts (in_use (sload r)) (in_use (sclr r)) e).0)

-- ---- the registers of a LAB
pub one_pair : (cs : List Record) → too_many_synchronous cs ≡ false → distinct (in_lab synchronous cs) ≤ 1
unfolding too_many_synchronous
one_pair cs h = ltb-false 1 (distinct (in_lab synchronous cs)) h

module _ (half : ℕ → ℕ) (port : RegisterCell → ℕ) (h : Half half port) where
  lab_half : (cs : List Record) → Every SixteenBits cs → filterb in_use (map half (in_lab synchronous cs)) ≡ in_lab (used_at port) cs
  lab_half =
      lab_made (λ l. filterb in_use (map half l)) refl
      (λ xs ys. ap (filterb in_use) (map-append half xs ys) ∙ filter-append in_use (map half xs) (map half ys))
      SixteenBits synchronous (used_at port) h

  module _ (cs : List Record) (s : Every SixteenBits cs) where
    fewer_used : distinct (in_lab (used_at port) cs) ≤ distinct (in_lab synchronous cs)
    fewer_used =
        distinct_image half (in_lab (used_at port) cs) (in_lab synchronous cs)
        (λ z m. (in_filter in_use z (map half (in_lab synchronous cs)) (rw (lab_half cs s) m)).0)

    -- the one pair tells the one signal
    pub one_half : distinct (in_lab synchronous cs) ≤ 1 → filterb in_use (map half (rising (in_lab synchronous cs))) ≡ rising (in_lab (used_at port) cs)
    one_half q =
        ap (filterb in_use) (sym (rising_one half (in_lab synchronous cs) q))
        ∙ rising_filter in_use (map half (in_lab synchronous cs))
        ∙ ap rising (lab_half cs s)

-- A LAB THAT KEEPS THE RULE KEEPS IT WITH THE PORTS COUNTED APART
-- 63
pub stricter : Stricter
unfolding Stricter too_many_apart
stricter cs s h =
    let one = one_pair cs h in
    rw (
      le-ltb 1 (distinct (in_lab (used_at sclr) cs)) (omega (arith, fewer_used second sclr sclr_half cs s, one)),
      le-ltb 1 (distinct (in_lab (used_at sload) cs)) (omega (arith, fewer_used first sload sload_half cs s, one)),
    )
