-- What is made of a LAB's codes part by part is made of them register by register. Assumes nothing.
use Prim.Native.Nat.{ℕ}
use mathlib.Core.Path.{◌≡◌, ◌∙◌}
use mathlib.Core.List.{List, [], ◌∷◌, ◌++◌}
use Rattle.sheet.specs.Lists.{Every}
use Rattle.exercise.specs.declared.RegisterCell.{RegisterCell}
use Rattle.exercise.specs.declared.Record.{Record}
use Rattle.exercise.specs.declared.Record.TheVariants.{Combinational, Register, Malformed}
use Rattle.lab_rules.specs.Ports.{in_lab}

module _ (h : List ℕ → List ℕ) (none : h [] ≡ []) (joined : (xs ys : List ℕ) → h (xs ++ ys) ≡ h xs ++ h ys) where
  pub lab_made : (Good : Record → Type 0) (f g : RegisterCell → List ℕ) → ((r : RegisterCell) → Good (Register r) → h (f r) ≡ g r)
      → (cs : List Record) → Every Good cs → h (in_lab f cs) ≡ in_lab g cs
  unfolding in_lab
  lab_made Good f g each [] s = none
  lab_made Good f g each (Register r ∷ cs) s = joined (f r) (in_lab f cs) ∙ rw (each r s.0, lab_made Good f g each cs s.1)
  lab_made Good f g each (Combinational c ∷ cs) s = lab_made Good f g each cs s.1
  lab_made Good f g each (Malformed ∷ cs) s = lab_made Good f g each cs s.1
