-- The numbers of the checks are those of the order of checking: 1 to 51 with 70 to 75, then 60 to 65 of the LABs. Assumes nothing.
use Prim.Native.Nat.{ℕ}
use mathlib.Core.Path.{◌≡◌, refl, sym, ap, ◌∙◌}
use mathlib.Core.Bool.{Bool, true, false, true≢false}
use mathlib.Core.List.{List, [], ◌∷◌, ◌++◌, map}
use lib.ListN.{length, get_or, drop, replicate}
use lib.Dec.{eqb}
use borrow.Author.Tests.{eqb-true}
use borrow.Author.Rules.{rules}
use Rattle.sheet.specs.Lists.{Every, concat_map, elemb, below}
use Rattle.exercise.specs.Exercise.{exercise_checks}
use Rattle.sheet.proofs.Laws.{by_test}
use Rattle.exercise.specs.declared.Record.{Record}
use Rattle.exercise.specs.declared.Record.TheVariants.{Combinational, Register, Malformed}
use Rattle.entries.specs.Table.{Table}
use Rattle.lab_rules.specs.Rules.{lab_rules, lab_checks}
use Rattle.tables.specs.Records.{cell, cell_numbers}
use Rattle.netlist.specs.Cells.{checks_of, cell_checks}
use Rattle.judge.specs.Call.{Call, in_force}
use Rattle.judge.specs.Judge.{Check, cell_check, per_cell, of_sheet, of_cell, of_lab, lab_cells, room_checks, settings_group, exercise_group, answer_group, cell_group, place_group, lab_group, sheet_checks, checks_to51, checks, first_broken}
use Rattle.verdict.specs.Numbers.{numbers_to51, lab_numbers, refusal_numbers}
use Rattle.judge.specs.Demands.{AllHold}
use Rattle.judge.proofs.Broken.{Numbered, NumberedIn}

-- ---- of every element
pub every_append : {A : Type 0} (P : A → Type 0) (xs ys : List A) → Every P xs → Every P ys → Every P (xs ++ ys)
every_append P [] ys h g = g
every_append P (x ∷ xs) ys h g = (h.0, every_append P xs ys h.1 g)

module _ {A : Type 0} where
  pub every_weaker : (P Q : A → Type 0) → ((x : A) → P x → Q x) → (xs : List A) → Every P xs → Every Q xs
  every_weaker P Q w [] h = tt
  every_weaker P Q w (x ∷ xs) h = (w x h.0, every_weaker P Q w xs h.1)

  module _ {B : Type 0} (Q : B → Type 0) where
    every_image : (f : A → B) → ((x : A) → Q (f x)) → (xs : List A) → Every Q (map f xs)
    every_image f h [] = tt
    every_image f h (x ∷ xs) = (h x, every_image f h xs)

    every_joined : (f : A → List B) → ((x : A) → Every Q (f x)) → (xs : List A) → Every Q (concat_map f xs)
    every_joined f h [] = tt
    every_joined f h (x ∷ xs) = every_append Q (f x) (concat_map f xs) (h x) (every_joined f h xs)

-- ---- a number in a list
-- where f gives the same for all numbers of a list, it gives that for each
pub all_give : {A : Type 0} (f : ℕ → A) (k : A) (ns : List ℕ) → map f ns ≡ replicate (length ns) k → (n : ℕ) → elemb n ns ≡ true → f n ≡ k
all_give f k [] h n m = absurd (true≢false (sym m))
all_give f k (x ∷ xs) h n m =
    by_test (eqb n x) (λ q. rw (eqb-true n x q) (ap (λ ks. get_or ks 0 k) h)) (λ q. all_give f k xs (ap (drop 1) h) n (rw q at m))

pub elem_more : (s : ℕ) (xs ys : List ℕ) → elemb s xs ≡ true → elemb s (xs ++ ys) ≡ true
elem_more s [] ys m = absurd (true≢false (sym m))
elem_more s (x ∷ xs) ys m = by_test (eqb s x) (λ e. rw e) (λ e. rw e (elem_more s xs ys (rw e at m)))

-- a check has one of the numbers of a list
abbrev pub In : List ℕ → Check → Type 0
In ns k = elemb k.finding.number ns ≡ true

abbrev pub To51 : Check → Type 0
To51 = In numbers_to51

module _ (n : ℕ) (ns : List ℕ) (none : elemb n ns ≡ false) where
  other : (m : ℕ) → elemb m ns ≡ true → m ≡ n → ⊥
  other m h q = true≢false (sym h ∙ rw q none)

  -- where the first broken check has a number that none of the first list has, these all hold
  pub later_held : (xs ys : List Check) → Every (In ns) xs → (first_broken (xs ++ ys)).number ≡ n → AllHold xs
  unfolding AllHold
  later_held [] ys h e = tt
  later_held (x ∷ xs) ys h e =
      by_test x.broken (λ b. absurd (other x.finding.number h.0 (rw b at e))) (λ b. (b, later_held xs ys h.1 (rw b at e)))

pub known_numbered : (ns : List ℕ) → elemb 0 ns ≡ false → (ks : List Check) → Every (In ns) ks → Numbered ks
known_numbered ns none ks h = every_weaker (In ns) _ (λ k g. other 0 ns none k.finding.number g) ks h

-- ---- the parts of the list of checks
pub run_known : (n : ℕ) → elemb n numbers_to51 ≡ true → (f : ℕ → Bool) (all : List ℕ) → Every To51 (per_cell n f all)
run_known n h f all = every_image To51 (λ i. cell_check n i (f i)) (λ i. h) all

pub room_known : (r n : ℕ) → Every To51 (room_checks r n)
unfolding room_checks
room_known r n = search rules

pub settings_known : (s : List ℕ) → Every To51 (settings_group s)
unfolding settings_group
settings_known s = search rules

pub exercise_known : (e : List ℕ) → Every To51 (of_sheet (exercise_checks e))
exercise_known e = search rules

ruleset runs = (run_known, rules)

pub answer_known : (e a : List ℕ) → Every To51 (answer_group e a)
unfolding answer_group
answer_known e a = search runs depth 20

cell_known : (e : List ℕ) (i j : ℕ) (c : Record) → Every To51 (of_cell j (checks_of e i c))
cell_known e i j (Combinational c) = search rules
cell_known e i j (Register r) = search rules
cell_known e i j Malformed = tt

pub cells_known : (e : List ℕ) → Every To51 (cell_group e)
unfolding cell_group cell_checks
cells_known e = every_joined To51 (λ i. of_cell i (cell_checks e i)) (λ i. cell_known e i i (cell e i)) (cell_numbers e)

of_kind_numbered : (e : List ℕ) (i : ℕ) (c : Record) → NumberedIn (checks_of e i c)
of_kind_numbered e i (Combinational c) = search rules
of_kind_numbered e i (Register r) = search rules
of_kind_numbered e i Malformed = tt

pub cell_numbered : (e : List ℕ) (i : ℕ) → NumberedIn (cell_checks e i)
unfolding cell_checks
cell_numbered e i = of_kind_numbered e i (cell e i)

pub rules_numbered : (cs : List Record) → NumberedIn (lab_rules cs)
rules_numbered cs = search rules

lab_known : (t : Table) (cs : List Record) (l : ℕ) → Every (In refusal_numbers) (of_lab l (lab_checks t cs))
lab_known t cs l = search rules

pub lab_numbered : (t : Table) (cs : List Record) → NumberedIn (lab_checks t cs)
lab_numbered t cs = search rules

-- ---- all checks
ruleset parts = (every_append, run_known, room_known, settings_known, exercise_known, answer_known, cells_known, rules)

pub to_51_known : (c : Call) → Every To51 (checks_to51 c)
unfolding checks_to51 sheet_checks exercise_group place_group
to_51_known c = search parts depth 20

pub to_51_numbered : (c : Call) → Numbered (checks_to51 c)
to_51_numbered c = known_numbered numbers_to51 refl (checks_to51 c) (to_51_known c)

pub all_known : (c : Call) → Every (In refusal_numbers) (checks c)
unfolding checks lab_group
all_known c =
    every_append (In refusal_numbers) (checks_to51 c) _
    (every_weaker To51 _ (λ k h. elem_more k.finding.number numbers_to51 lab_numbers h) (checks_to51 c) (to_51_known c))
    (every_joined (In refusal_numbers) (λ l. of_lab l (lab_checks (in_force c) (lab_cells c l))) (λ l. lab_known (in_force c) (lab_cells c l) l) (below 1024))

pub all_numbered : (c : Call) → Numbered (checks c)
all_numbered c = known_numbered refusal_numbers refl (checks c) (all_known c)
