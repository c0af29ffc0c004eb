-- Request M-106: what stands in the list of tries on 0 and 65, as statements about every call. What is said is said of any `before`, so of one of the call's
-- length. Demand 1 says that every other verdict leaves the list untouched. Assumes nothing.
use Rattle.std.specs.Prelude.{ℕ, ◌<◌, ◌≤◌, ◌≡◌, false, List, [], ◌∷◌, length, get_or}
use Rattle.route.specs.Tries.{tries}
use Rattle.judge.specs.Call.{Call, in_force}
use Rattle.judge.specs.Judge.{occupied, judged, tried}
use Rattle.judge.specs.Demands.{OneOf, lab_needs}

-- the tries of LAB l on the board in force
abbrev tries_in : Call → ℕ → ℕ
tries_in c l = tries (in_force c) (lab_needs c l)

pub record TriesTold : Type 0 where
  -- "Report tries for each LAB in a lent list of 1,024 numbers, written on verdicts 0 and 65"
  pub as_long : (c : Call) (before : List ℕ) → OneOf (judged c) (0 ∷ 65 ∷ []) → length (tried c before) ≡ 1024
  pub legal : (c : Call) (before : List ℕ) → (judged c).number ≡ 0 → (l : ℕ) → l < 1024 → get_or (tried c before) l 0 ≡ tries_in c l
  pub refused : (c : Call) (before : List ℕ) → (judged c).number ≡ 65 → (l : ℕ) → l < 1024 → l ≤ (judged c).lab → get_or (tried c before) l 0 ≡ tries_in c l
  -- "empty LABs, and those above a refused one, get 0"
  pub empty : (c : Call) (before : List ℕ) → OneOf (judged c) (0 ∷ 65 ∷ []) → (l : ℕ) → l < 1024 → occupied c l ≡ false → get_or (tried c before) l 0 ≡ 0
  pub above : (c : Call) (before : List ℕ) → (judged c).number ≡ 65 → (l : ℕ) → l < 1024 → (judged c).lab < l → get_or (tried c before) l 0 ≡ 0
  -- "is at most .. with eight needs and eight entries", and M-107, "The limit there becomes 19,173,960": no LAB that is told has more of either
  pub most : (c : Call) (before : List ℕ) → OneOf (judged c) (0 ∷ 65 ∷ []) → (l : ℕ) → l < 1024 → get_or (tried c before) l 0 ≤ 19173960
