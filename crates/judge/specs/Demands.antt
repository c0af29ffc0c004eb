-- The three demands, as statements about every call. A reader needs this file, Call, Judge, and the definitions that Judge names: nothing of any
-- proof. What is said of the route buffer and of the list of tries is said of any `before`, so of one of the
-- call's length. Assumes nothing.
use Rattle.std.specs.Prelude.{ℕ, ◌+◌, ◌*◌, ◌<◌, min, ◌≡◌, ◌↔◌, ◌⊎◌, true, false, cond, List, [], ◌∷◌, ◌++◌, length, get_or}
use Rattle.sheet.specs.Lists.{Every, elemb}
use Rattle.exercise.specs.Exercise.{cell_count, record_start}
use Rattle.answer.specs.Answer.{apprentice, place_start}
use Rattle.placing.specs.Places.{lab_at}
use Rattle.entries.specs.declared.Need.{Need}
use Rattle.route.specs.Way.{Way, Earlier}
use Rattle.route.specs.Route.{byte_of_need}
use Rattle.lab_rules.specs.Rules.{needs, lab_rules}
use Rattle.verdict.specs.declared.Verdict.{Verdict}
use Rattle.judge.specs.Call.{Call, in_force}
use Rattle.judge.specs.Judge.{Check, checks, checks_to51, of_lab, lab_cells, occupied, judged, routed, tried}
use Rattle.verdict.specs.Verdicts.{of_exercise, of_answer, verdict_of}

-- the numbers that a judgement can give: document 01's, 70 to 75 of M-102 and 3 of M-106
abbrev pub numbers : List ℕ
numbers =
    0 ∷ 1 ∷ 3 ∷ 10 ∷ 11 ∷ 12 ∷ 13 ∷ 14 ∷ 15 ∷ 16 ∷ 20 ∷ 21 ∷ 22 ∷ 23 ∷ 24 ∷ 25 ∷ 26
    ∷ 30 ∷ 31 ∷ 32 ∷ 33 ∷ 34 ∷ 35 ∷ 40 ∷ 41 ∷ 42 ∷ 43 ∷ 44 ∷ 50 ∷ 51 ∷ 60 ∷ 61 ∷ 62 ∷ 63 ∷ 64 ∷ 65
    ∷ 70 ∷ 71 ∷ 72 ∷ 73 ∷ 74 ∷ 75 ∷ []

-- the number of a verdict is one of these
abbrev pub OneOf : Verdict → List ℕ → Type 0
OneOf v ns = elemb v.number ns ≡ true

-- i is the lowest of the exercise's cells that the answer puts into LAB l
pub record LowestCell (c : Call) (l i : ℕ) : Type 0 where
  pub is_cell : i < cell_count c.exercise
  pub stands : lab_at c.answer i ≡ l
  pub none_lower : (j : ℕ) → j < i → lab_at c.answer j ≡ l → ⊥

-- "a refusal names its culprit": for each number which part of which sheet that is, with document 01's numbers written out
pub record NamesCulprit (c : Call) (v : Verdict) : Type 0 where
  -- "for 0 and 1 the empty part at the answer's end"; 70 to 75 with "the culprit of 1"; 3 "as for 1"
  pub call : OneOf v (0 ∷ 1 ∷ 3 ∷ 70 ∷ 71 ∷ 72 ∷ 73 ∷ 74 ∷ 75 ∷ []) → v.culprit ≡ of_answer (length c.answer) 0
  -- "for 10 to 14 the first 9 bytes of the exercise (all of them if fewer)"
  pub exercise_head : OneOf v (10 ∷ 11 ∷ 12 ∷ 13 ∷ 14 ∷ []) → v.culprit ≡ of_exercise 0 (min 9 (length c.exercise))
  -- "for 15, 16 and 30 to 44 that cell's exercise record"
  pub cell_record : OneOf v (15 ∷ 16 ∷ 30 ∷ 31 ∷ 32 ∷ 33 ∷ 34 ∷ 35 ∷ 40 ∷ 41 ∷ 42 ∷ 43 ∷ 44 ∷ [])
      → (v.cell < cell_count c.exercise) × (v.culprit ≡ of_exercise (record_start v.cell) 24)
  -- "for 20 to 25 the first 11 bytes of the answer (or all)"
  pub answer_head : OneOf v (20 ∷ 21 ∷ 22 ∷ 23 ∷ 24 ∷ 25 ∷ []) → v.culprit ≡ of_answer 0 (min 11 (length c.answer))
  -- "for 26, 50 and 51 that cell's answer record"
  pub cell_place : OneOf v (26 ∷ 50 ∷ 51 ∷ []) → (v.cell < cell_count c.exercise) × (v.culprit ≡ of_answer (place_start v.cell) 4)
  -- "for 60 to 65 the answer record of the lowest cell in that LAB"
  pub lab_place : OneOf v (60 ∷ 61 ∷ 62 ∷ 63 ∷ 64 ∷ 65 ∷ [])
      → (i : ℕ) × LowestCell c v.lab i × (v.culprit ≡ of_answer (place_start i) 4)

-- every check of a list holds
unfoldable pub AllHold : List Check → Type 0
AllHold = Every (λ k. k.broken ≡ false)

-- k is the first broken check of a list
pub record FirstBroken (k : Check) (ks : List Check) : Type 0 where
  pub before : List Check
  pub after : List Check
  pub stands : ks ≡ before ++ (k ∷ after)
  pub hold : AllHold before
  pub broken : k.broken ≡ true

-- DEMAND 1. "exactly one numbered verdict"; "a refusal names its culprit"; "a refusal .. leaves the route buffer untouched"; "the apprentice
-- number comes from the answer sheet only", "0 for numbers 1 to 23" and 70 to 75; a refusal other than 65 leaves the list of tries untouched
pub record Demand1 : Type 0 where
  pub one_number : (c : Call) → elemb (judged c).number numbers ≡ true
  pub names_culprit : (c : Call) → NamesCulprit c (judged c)
  pub untouched : (c : Call) (before : List ℕ) → ((judged c).number ≡ 0 → ⊥) → routed c before ≡ before
  pub tries_untouched : (c : Call) (before : List ℕ) → elemb (judged c).number (0 ∷ 65 ∷ []) ≡ false → tried c before ≡ before
  pub apprentice_only : (c : Call) → (judged c).apprentice
      ≡ cond (elemb (judged c).number (1 ∷ 3 ∷ 10 ∷ 11 ∷ 12 ∷ 13 ∷ 14 ∷ 15 ∷ 16 ∷ 20 ∷ 21 ∷ 22 ∷ 23 ∷ 70 ∷ 71 ∷ 72 ∷ 73 ∷ 74 ∷ 75 ∷ [])) 0
      (apprentice c.answer)

-- DEMAND 2. "The verdict is legal exactly if every rule in document 01 holds; otherwise it is the first broken one, in 01's order"
pub record Demand2 : Type 0 where
  pub legal_exactly : (c : Call) → ((judged c).number ≡ 0) ↔ AllHold (checks c)
  pub else_the_first : (c : Call) (k : Check) → FirstBroken k (checks c) → judged c ≡ verdict_of c.exercise c.answer k.finding
  pub one_or_other : (c : Call) → AllHold (checks c) ⊎ ((k : Check) × FirstBroken k (checks c))

-- ---- demand 3, of a call: "demand 3 speaks of that table", the one in force
module _ (c : Call) where
  -- the needs of LAB l, in need order
  unfoldable pub lab_needs : ℕ → List Need
  lab_needs l = needs (lab_cells c l)

  -- "A LAB keeps one of 60 to 64 when that rule's line isn't true of its cells"
  unfoldable pub Keeps60to64 : ℕ → Type 0
  Keeps60to64 l = AllHold (of_lab l (lab_rules (lab_cells c l)))

  -- "and keeps 65 when it has a way"
  unfoldable pub Keeps65 : ℕ → Type 0
  Keeps65 l = (w : List ℕ) × Way (in_force c) (lab_needs l) w

  -- "refusal 65 names a LAB exactly when four things are true"
  pub record FourThings (l : ℕ) : Type 0 where
    pub to_51_hold : AllHold (checks_to51 c)
    pub lower_keep : (k : ℕ) → k < l → Keeps60to64 k × Keeps65 k
    pub keeps_to_64 : Keeps60to64 l
    pub has_no_way : (w : List ℕ) → Way (in_force c) (lab_needs l) w → ⊥

  -- "8 bytes per LAB at 8 × LAB number, for two clk, two ena, two aclr, sclr, sload in need order": the byte of need i of LAB l
  unfoldable pub byte_of : ℕ → ℕ → ℕ
  byte_of l i = 8 * l + byte_of_need (lab_needs l) i

  -- the route bytes of LAB l hold w, a way than which every other comes later
  pub record HoldsFirstWay (route : List ℕ) (l : ℕ) : Type 0 where
    pub w : List ℕ
    pub is_way : Way (in_force c) (lab_needs l) w
    pub others_later : (v : List ℕ) → Way (in_force c) (lab_needs l) v → (v ≡ w) ⊎ Earlier w v
    pub held : (i : ℕ) → i < length (lab_needs l) → get_or route (byte_of l i) 0 ≡ get_or w i 0

-- DEMAND 3, both halves
pub record Demand3 : Type 0 where
  pub refusal_65 : (c : Call) (l : ℕ) → (((judged c).number ≡ 65) × ((judged c).lab ≡ l)) ↔ FourThings c l
  pub legal_route : (c : Call) (before : List ℕ) → (judged c).number ≡ 0
      → (l : ℕ) → occupied c l ≡ true → HoldsFirstWay c (routed c before) l
  pub no_need_255 : (c : Call) (before : List ℕ) → (judged c).number ≡ 0
      → (b : ℕ) → b < 8192 → ((l i : ℕ) → i < length (lab_needs c l) → byte_of c l i ≡ b → ⊥) → get_or (routed c before) b 0 ≡ 255
