-- A verdict names its culprit as document 01 says: the number gives the fault, and the checks before it the cell. Assumes nothing.
use Prim.Native.Nat.{ℕ}
use mathlib.Core.Path.{◌≡◌, ap}
use mathlib.Core.List.{List}
use Rattle.exercise.specs.Exercise.{cell_count}
use Rattle.verdict.specs.declared.Fault.{Fault}
use Rattle.verdict.specs.declared.Fault.TheVariants as fault
use Rattle.verdict.specs.declared.Fault.TheVariants.{ExerciseHead, Record, AnswerHead, Place, Lab}
use Rattle.verdict.specs.declared.Finding.{Finding}
use Rattle.verdict.specs.Numbers.{fault_of}
use Rattle.judge.specs.Call.{Call}
use Rattle.judge.specs.Judge.{checks, first_broken, judged}
use Rattle.verdict.specs.Verdicts.{lowest_in, culprit_at, culprit_of, verdict_of}
use Rattle.judge.specs.Demands.{NamesCulprit}
use Rattle.judge.proofs.Faults as faults
use Rattle.judge.proofs.Faults.{fault_in}
use Rattle.judge.proofs.CulpritInside.{FineAt, Fine, all_fine}

module _ (c : Call) (f : Finding) (fine : Fine c f) where
  abbrev e : List ℕ
  e = c.exercise

  abbrev a : List ℕ
  a = c.answer

  known : (k : Fault) → fault_of f.number ≡ k → FineAt c f k
  known k q = rw q at fine

  part : (k : Fault) → fault_of f.number ≡ k → culprit_of e a f ≡ culprit_at e a f k
  unfolding culprit_of
  part k q = ap (culprit_at e a f) q

  named : NamesCulprit c (verdict_of e a f)
  unfolding verdict_of
  named = record {
    call = λ m. part fault.Call (fault_in fault.Call _ faults.call f.number m);
    exercise_head = λ m. part ExerciseHead (fault_in ExerciseHead _ faults.exercise_head f.number m);
    cell_record = λ m. let q = fault_in Record _ faults.cell_record f.number m in ((known Record q).0, part Record q);
    answer_head = λ m. part AnswerHead (fault_in AnswerHead _ faults.answer_head f.number m);
    cell_place = λ m. let q = fault_in Place _ faults.cell_place f.number m in ((known Place q).0, part Place q);
    lab_place = λ m. let q = fault_in Lab _ faults.lab_place f.number m in (lowest_in a (cell_count e) f.lab, (known Lab q).0, part Lab q);
  }

pub names_culprit : (c : Call) → NamesCulprit c (judged c)
unfolding judged
names_culprit c = named c (first_broken (checks c)) (all_fine c)
