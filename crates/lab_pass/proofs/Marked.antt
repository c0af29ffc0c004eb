-- The marks of a LAB are higher than those of the LABs below it, and after it no mark is higher than its own. Assumes nothing.
use Prim.Native.Nat.{ℕ, ◌+◌, ◌*◌, ◌<◌}
use mathlib.Core.Path.{◌≡◌}
use mathlib.Core.List.{List}
use native.Mathlib.Omega.{arith}
use Rattle.distinct.specs.declared.LabMarks.{LabMarks}
use Rattle.distinct.specs.passes.Marks.{Lower}
use Rattle.distinct.proofs.Nets.{lower_more}
use Rattle.lab_pass.specs.passes.Results.{marks_of}

-- the LABs below `lab` may have left marks
abbrev pub LowerThan : ℕ → List ℕ → Type 0
LowerThan lab marks = Lower 1024 (2 * lab + 1) marks

pub lower_skips : (lab : ℕ) (marks : List ℕ) → LowerThan lab marks → LowerThan (lab + 1) marks
lower_skips lab marks s = lower_more 1024 (2 * lab + 1) (2 * (lab + 1) + 1) marks (omega arith) s

pub lower_skips_group : (group : ℕ) (marks : List ℕ) → LowerThan (8 * group) marks → LowerThan (8 * (group + 1)) marks
lower_skips_group group marks s = lower_more 1024 (2 * (8 * group) + 1) (2 * (8 * (group + 1)) + 1) marks (omega arith) s

module _ (lab : ℕ) (l : LabMarks) (e : l ≡ marks_of lab) where
  pub marks_rise : l.read < l.driven
  unfolding marks_of
  marks_rise = rw e (omega arith)

  module _ (marks : List ℕ) where
    pub lower_here : LowerThan lab marks → Lower 1024 l.read marks
    unfolding marks_of
    lower_here s = rw e s

    pub lower_after : Lower 1024 (l.driven + 1) marks → LowerThan (lab + 1) marks
    unfolding marks_of
    lower_after s = lower_more 1024 (2 * lab + 2 + 1) (2 * (lab + 1) + 1) marks (omega arith) (rw e at s)
