-- Each number that demand 1 lists has the fault that document 01 gives it, by computation. Assumes nothing.
use Prim.Native.Nat.{ℕ}
use mathlib.Core.Path.{◌≡◌, refl}
use mathlib.Core.Bool.{true}
use mathlib.Core.List.{List, [], ◌∷◌, map}
use lib.ListN.{length, replicate}
use Rattle.sheet.specs.Lists.{elemb}
use Rattle.verdict.specs.declared.Fault.{Fault}
use Rattle.verdict.specs.declared.Fault.TheVariants.{Call, ExerciseHead, Record, AnswerHead, Place, Lab}
use Rattle.verdict.specs.Numbers.{fault_of}
use Rattle.judge.proofs.Numbers.{all_give}

-- all numbers of a list have the fault k
unfoldable pub AllAt : Fault → List ℕ → Type 0
AllAt k ns = map fault_of ns ≡ replicate (length ns) k

pub fault_in : (k : Fault) (ns : List ℕ) → AllAt k ns → (n : ℕ) → elemb n ns ≡ true → fault_of n ≡ k
unfolding AllAt
fault_in k ns h n m = all_give fault_of k ns h n m

pub call : AllAt Call (0 ∷ 1 ∷ 3 ∷ 70 ∷ 71 ∷ 72 ∷ 73 ∷ 74 ∷ 75 ∷ [])
unfolding AllAt fault_of
call = refl

pub exercise_head : AllAt ExerciseHead (10 ∷ 11 ∷ 12 ∷ 13 ∷ 14 ∷ [])
unfolding AllAt fault_of
exercise_head = refl

pub cell_record : AllAt Record (15 ∷ 16 ∷ 30 ∷ 31 ∷ 32 ∷ 33 ∷ 34 ∷ 35 ∷ 40 ∷ 41 ∷ 42 ∷ 43 ∷ 44 ∷ [])
unfolding AllAt fault_of
cell_record = refl

pub answer_head : AllAt AnswerHead (20 ∷ 21 ∷ 22 ∷ 23 ∷ 24 ∷ 25 ∷ [])
unfolding AllAt fault_of
answer_head = refl

pub cell_place : AllAt Place (26 ∷ 50 ∷ 51 ∷ [])
unfolding AllAt fault_of
cell_place = refl

pub lab_place : AllAt Lab (60 ∷ 61 ∷ 62 ∷ 63 ∷ 64 ∷ 65 ∷ [])
unfolding AllAt fault_of
lab_place = refl
