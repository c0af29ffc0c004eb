-- The two parts that are computed are put beside the finding.
use Prim.Native.Nat.{ℕ}
use mathlib.Core.Path.{◌≡◌}
use mathlib.Core.List.{List}
use Rattle.verdict.specs.declared.Finding.{Finding}
use Rattle.verdict.specs.declared.Part.{Part}
use Rattle.verdict.specs.declared.Verdict.{Verdict}
use Rattle.verdict.specs.Verdicts.{apprentice_of, culprit_of, verdict_of}
use Rattle.verdict.proofs.verdict_of.Goals as goal

verdict_is : (e a : List ℕ) (f : Finding) (n : ℕ) (p : Part) → n ≡ apprentice_of a f.number → p ≡ culprit_of e a f
    → ◌≡◌ {A = Verdict} (record { number = f.number; cell = f.cell; lab = f.lab; apprentice = n; culprit = p }) (verdict_of e a f)
unfolding verdict_of
verdict_is e a f n p h q = rw (h, q)

pub returns : goal.returns
returns c =
    search verdict_is
