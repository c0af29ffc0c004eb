-- Demand 2 holds: the verdict is legal exactly if all checks hold, and otherwise it is what the first broken one finds. Assumes nothing.
use mathlib.Core.Path.{◌≡◌, refl, ap, ◌∙◌}
use mathlib.Core.Logic.{◌⊎◌, inl, inr, ⊎_elim}
use mathlib.Core.List.{List, [], ◌∷◌}
use Rattle.sheet.proofs.Laws.{by_test}
use Rattle.verdict.specs.declared.Finding.{Finding}
use Rattle.judge.specs.Judge.{Check, checks, first_broken, judged}
use Rattle.verdict.specs.Verdicts.{verdict_of}
use Rattle.judge.specs.Demands.{AllHold, FirstBroken, Demand2}
use Rattle.judge.proofs.Broken.{skip_held, hold_legal, legal_hold}
use Rattle.judge.proofs.Numbers.{all_numbered}

first_finds : (k : Check) (ks : List Check) → FirstBroken k ks → first_broken ks ≡ k.finding
first_finds k ks f = ap first_broken f.stands ∙ skip_held f.before (k ∷ f.after) f.hold ∙ rw f.broken

all_or_first : (ks : List Check) → AllHold ks ⊎ ((k : Check) × FirstBroken k ks)
unfolding AllHold
all_or_first [] = inl tt
all_or_first (k ∷ ks) =
    by_test k.broken (λ b. inr (k, record { before = []; after = ks; stands = refl; hold = tt; broken = b }))
    (λ b. ⊎_elim (λ h. inl (b, h))
    (λ w. let f = w.1 in
    inr (w.0, record { before = k ∷ f.before; after = f.after; stands = rw f.stands; hold = (b, f.hold); broken = f.broken }))
    (all_or_first ks))

pub demand2 : Demand2
unfolding judged verdict_of
demand2 = record {
  legal_exactly = λ c. (
    legal_hold (checks c) (all_numbered c),
    λ h. ap (λ (f : Finding). f.number) (hold_legal (checks c) h),
  );
  else_the_first = λ c k f. ap (verdict_of c.exercise c.answer) (first_finds k (checks c) f);
  one_or_other = λ c. all_or_first (checks c);
}
