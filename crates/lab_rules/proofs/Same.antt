-- Counts that `==` finds the same are equal. Assumes nothing.
use Rattle.std.proofs.Common.{◌≡◌, Bool, true, ◌&&◌, arith}
use Rattle.distinct.specs.contracts.UpToTwoPartialEq.TheImpl as codes
use Rattle.distinct.specs.declared.UpToTwo.{UpToTwo}
use Rattle.distinct.proofs.Same.{same_codes}
use Rattle.lab_rules.specs.declared.Counts.{Counts}
use Rattle.lab_rules.specs.contracts.CountsPartialEq.TheImpl.{ghosts}

-- what is true of five tests together
each : (p q r s t : Bool) → p && (q && (r && (s && t))) ≡ true → (p ≡ true) × (q ≡ true) × (r ≡ true) × (s ≡ true) × (t ≡ true)
each p q r s t h = grind arith

counts_equal : {c p r s e d q u t f : UpToTwo} → c ≡ d → p ≡ q → r ≡ u → s ≡ t → e ≡ f
    → ◌≡◌ {A = Counts} (record { clocks = c; pairs = p; clears = r; synchronous = s; enables = e }) (record { clocks = d; pairs = q; clears = u; synchronous = t; enables = f })
counts_equal h₁ h₂ h₃ h₄ h₅ = rw (h₁, h₂, h₃, h₄, h₅)

pub same_counts : (a b : Counts) → ghosts.eq a b ≡ true → a ≡ b
same_counts a b h =
    let same = codes.ghosts.eq in
    let e = each (same a.clocks b.clocks) (same a.pairs b.pairs) (same a.clears b.clears) (same a.synchronous b.synchronous) (same a.enables b.enables) h in
    counts_equal (same_codes a.clocks b.clocks e.0) (same_codes a.pairs b.pairs e.1) (same_codes a.clears b.clears e.2)
    (same_codes a.synchronous b.synchronous e.3) (same_codes a.enables b.enables e.4)
