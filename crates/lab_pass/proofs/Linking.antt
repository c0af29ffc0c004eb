-- How the loop of `link_cells` goes: what is linked from here on makes the tables of all cells. Assumes nothing.
use Prim.Native.Nat.{ℕ, zero, suc, ◌≤◌}
use mathlib.Core.Path.{◌≡◌, refl, sym, ap, ◌∙◌}
use mathlib.Core.List.{List}
use native.Mathlib.Omega.{arith}
use lib.ListN.{length, get_or, length-set}
use Rattle.sheet.specs.Checks.{NONE}
use Rattle.placing.specs.Places.{lab_at}
use Rattle.lab_pass.specs.passes.Links.{Links, link, link_below}

-- the tables were f₀ and x₀, and the cells from i on are linked
pub record Linking (a : List ℕ) (n : ℕ) (f₀ x₀ f x : List ℕ) (i : ℕ) : Type 0 where
  pub same : link_below a (record { first = f₀; next = x₀ }) n ≡ link_below a (record { first = f; next = x }) i
  pub firsts : length f ≡ length f₀
  pub nexts : length x ≡ length x₀

pub link_starts : (a : List ℕ) (n : ℕ) (f x : List ℕ) → Linking a n f x f x n
link_starts a n f x = record { same = refl; firsts = refl; nexts = refl }

pub link_goes : (a : List ℕ) (n : ℕ) (f₀ x₀ f x f' x' : List ℕ) (i j : ℕ) → Linking a n f₀ x₀ f x i → i ≡ suc j
    → f' ≡ (link a (record { first = f; next = x }) j).first → x' ≡ (link a (record { first = f; next = x }) j).next → Linking a n f₀ x₀ f' x' j
unfolding link link_below
link_goes a n f₀ x₀ f x f' x' i j s z p q = record {
  same = s.same ∙ rw (z, p, q);
  firsts = ap length p ∙ length-set f (lab_at a j) j ∙ s.firsts;
  nexts = ap length q ∙ length-set x j (get_or f (lab_at a j) NONE) ∙ s.nexts;
}

pub link_ends : (a : List ℕ) (n : ℕ) (f₀ x₀ f x : List ℕ) (i : ℕ) → Linking a n f₀ x₀ f x i → i ≤ 0
    → (f ≡ (link_below a (record { first = f₀; next = x₀ }) n).first) × (x ≡ (link_below a (record { first = f₀; next = x₀ }) n).next)
unfolding link_below
link_ends a n f₀ x₀ f x zero s h = (ap (λ (t : Links). t.first) (sym s.same), ap (λ (t : Links). t.next) (sym s.same))
link_ends a n f₀ x₀ f x (suc i) s h = absurd (omega arith)
