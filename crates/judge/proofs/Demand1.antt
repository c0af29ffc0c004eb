-- Demand 1 holds: the verdict has a number of the table and names its culprit, a refusal leaves the route buffer as it was, one other than
-- 65 the list of tries too, and the apprentice is that of the answer sheet. Assumes nothing.
use Prim.Native.Nat.{ℕ}
use mathlib.Core.Path.{◌≡◌, refl}
use mathlib.Core.Bool.{true}
use borrow.Author.Tests.{ne_eqb}
use Rattle.sheet.specs.Lists.{elemb}
use Rattle.verdict.specs.Numbers.{refusal_numbers}
use Rattle.judge.specs.Call.{Call}
use Rattle.judge.specs.Judge.{checks, judged, routed, tried}
use Rattle.verdict.specs.Verdicts.{apprentice_of, verdict_of}
use Rattle.judge.specs.Demands.{Demand1, numbers}
use Rattle.judge.proofs.Broken.{found}
use Rattle.judge.proofs.Numbers.{In, all_give, every_weaker, all_known}
use Rattle.judge.proofs.NamesCulprit.{names_culprit}

-- the numbers of the checks are in the table
in_table : (n : ℕ) → elemb n refusal_numbers ≡ true → elemb n numbers ≡ true
in_table n m = all_give (λ n. elemb n numbers) true refusal_numbers refl n m

one_number : (c : Call) → elemb (judged c).number numbers ≡ true
unfolding judged verdict_of
one_number c =
    found (λ f. elemb f.number numbers ≡ true) refl (checks c)
    (every_weaker (In refusal_numbers) _ (λ k h. in_table k.finding.number h) (checks c) (all_known c))

pub demand1 : Demand1
unfolding judged verdict_of routed tried apprentice_of
demand1 = record {
  one_number = one_number;
  names_culprit = names_culprit;
  untouched = λ c before h. rw (ne_eqb (judged c).number 0 h);
  tries_untouched = λ c before h. rw h;
  apprentice_only = λ c. refl;
}
