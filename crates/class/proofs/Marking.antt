-- The walk over a class sheet: where the lengths stand, and the rows that are stored. Assumes nothing.
use Prim.Native.Nat.{ℕ, suc, ◌+◌, ◌*◌, ◌≤◌, ◌<◌}
use native.Mathlib.Numerals.{add-one}
use native.Mathlib.Omega.{arith}
use mathlib.Core.Path.{◌≡◌, refl, sym, ap, ◌∙◌}
use mathlib.Core.Bool.{not}
use mathlib.Core.List.{List, [], ◌∷◌, ◌++◌, map}
use lib.ListN.{length, drop, set, length-map}
use lib.Dec.{eqb}
use lib.Seq.{sets}
use borrow.Author.Tests.{ltb-false}
use Rattle.sheet.specs.Lists.{below}
use Rattle.sheet.specs.Bytes.{u16_at, part_at}
use Rattle.sheet.specs.declared.refusal.Refusal.{Refusal}
use Rattle.sheet.specs.Refusals.{number_of}
use Rattle.sheet.proofs.Refusals.{refused_number}
use Rattle.sheet.proofs.Lists.{map-suc, table_length, store_behind, sets_front}
use Rattle.sheet.proofs.Checks.{all_held}
use Rattle.entries.specs.Table.{Table, eight_rows}
use Rattle.settings.specs.Settings.{table_of}
use Rattle.judge.specs.Call.{call}
use Rattle.judge.specs.Judge.{judged}
use Rattle.verdict.specs.Verdicts.{verdict_of, numbers_of}
use Rattle.judge.specs.declared.Prepared.{Prepared}
use Rattle.judge.specs.passes.Preparing.{prepared_for, drivers_for}
use Rattle.judge.proofs.Preparing.{prepared_serves}
use Rattle.class.specs.Class.{Marked, answer_count, start_of, answer_of, answers_on, wrong_lengths, class_checks, refusal, marked, row_of, rows_of, rows_after}
use Rattle.class.specs.passes.Rows.{row_on, row_from}

-- ---- after i answers the walk stands where the length of answer i does
pub record Walked (k : List ℕ) (count i at : ℕ) : Type 0 where
  pub within : i ≤ count
  pub stands : at ≡ start_of k i
  pub low : at ≤ 7 + 65537 * i

pub walk_starts : (k : List ℕ) (count : ℕ) → Walked k count 0 7
unfolding start_of
walk_starts k count = record { within = omega arith; stands = refl; low = omega arith }

module _ (k : List ℕ) (count i at : ℕ) (w : Walked k count i at) where
  pub walk_goes : (next : ℕ) → i < count → next ≡ at + 2 + u16_at k at → next ≤ at + 65537 → Walked k count (i + 1) next
  unfolding start_of
  walk_goes next h q m = record { within = omega arith; stands = rw add-one (q ∙ rw w.stands); low = omega (arith, w.low) }

  pub walk_all : count ≤ i → at ≡ start_of k count
  walk_all h = let same : i ≡ count = omega (arith, w.within) in rw same at w.stands

-- 76: the test after the walk
pub lengths_told : (k : List ℕ) (count i at : ℕ) → Walked k count i at → count ≤ i → count ≡ answer_count k → not (eqb at (length k)) ≡ wrong_lengths k
unfolding wrong_lengths
lengths_told k count i at w h c = rw (walk_all k count i at w h, c)

-- ---- after i answers their rows are stored
module _ (row : ℕ → List ℕ) where
  -- the row of the next answer is stored behind them
  store_next : (lent : List (List ℕ)) (i : ℕ) → set (sets lent 0 (map row (below i))) i (row i) ≡ sets lent 0 (map row (below (suc i)))
  store_next lent i =
      let here = table_length row i in
      (rw here at (store_behind lent (map row (below i)) (row i))) ∙ ap (λ (rs : List (List ℕ)). sets lent 0 rs) (sym (map-suc row i))

pub record Stored (row : ℕ → List ℕ) (k : List ℕ) (lent : List (List ℕ)) (count i at : ℕ) (rows : List (List ℕ)) : Type 0 where
  pub walked : Walked k count i at
  pub written : rows ≡ sets lent 0 (map row (below i))

module _ (t : Table) (p : Prepared) (ds e k : List ℕ) (lent : List (List ℕ)) (count : ℕ) where
  abbrev row_at : ℕ → List ℕ
  row_at i = row_from t p ds e (answer_of k i)

  pub store_starts : Stored row_at k lent count 0 7 lent
  store_starts = record { walked = walk_starts k count; written = refl }

  module _ (i at : ℕ) (rows : List (List ℕ)) (s : Stored row_at k lent count i at rows) where
    pub store_goes : (a row : List ℕ) (after : List (List ℕ)) (next : ℕ) → i < count → a ≡ part_at k (at + 2) (u16_at k at) → row ≡ row_from t p ds e a
        → after ≡ set rows i row → next ≡ at + 2 + u16_at k at → next ≤ at + 65537 → Stored row_at k lent count (i + 1) next after
    unfolding answer_of
    store_goes a row after next h part told put q m =
        let same : row ≡ row_at i = told ∙ rw (part, s.walked.stands) in
        record {
          walked = walk_goes k count i at s.walked next h q m;
          written = put ∙ rw (same, s.written, add-one i) (store_next row_at lent i);
        }

-- ---- the row of an answer
-- what was prepared serves each answer: its row is that of the judge's own verdict
row_judged : (s e a : List ℕ) → row_from (eight_rows (table_of s)) (prepared_for s e) (drivers_for s e) e a ≡ numbers_of (judged (call s e a 8192 1024))
unfolding row_from judged verdict_of
row_judged s e a = ap (row_on a) (prepared_serves s e a 8192 1024 refl refl)

rows_judged : (s e k : List ℕ) (is : List ℕ)
    → map (λ i. row_from (eight_rows (table_of s)) (prepared_for s e) (drivers_for s e) e (answer_of k i)) is ≡ map (row_of s e) (map (answer_of k) is)
unfolding row_of
rows_judged s e k [] = refl
rows_judged s e k (i ∷ is) = rw (row_judged s e (answer_of k i), rows_judged s e k is)

-- ---- the whole call: what it says, and the lent rows at exit
abbrev pub Outcome : List ℕ → List ℕ → List ℕ → List (List ℕ) → Marked → List (List ℕ) → Type 0
Outcome s e k lent r after = record { told : r ≡ marked k (length lent); written : after ≡ rows_after s e k lent }

module _ (s e k : List ℕ) (lent : List (List ℕ)) where
  pub class_refused : (f : Refusal) (r : Marked) → number_of f ≡ refusal k (length lent) → r ≡ record { number = number_of f; filled = 0 } → Outcome s e k lent r lent
  unfolding marked rows_after
  class_refused f r x q = record { told = q ∙ rw (← x, refused_number f); written = rw (← x, refused_number f) }

  module _ (x : 0 ≡ refusal k (length lent)) where
    -- 77: there is a row for each answer
    enough : answer_count k ≤ length lent
    unfolding refusal
    enough = ltb-false (length lent) (answer_count k) (all_held (class_checks k (length lent)) refl (sym x)).1.1.1.1.1.0

    rows_count : length (rows_of s e k) ≡ answer_count k
    unfolding rows_of answers_on
    rows_count = length-map (map (answer_of k) (below (answer_count k))) (row_of s e) ∙ table_length (answer_of k) (answer_count k)

    rows_are : sets lent 0 (rows_of s e k) ≡ rows_of s e k ++ drop (length (rows_of s e k)) lent
    rows_are = sets_front lent (rows_of s e k) (omega (arith, enough, rows_count))

    pub class_marked : (t : Table) (p : Prepared) (ds : List ℕ) (count : ℕ) (after : List (List ℕ)) → t ≡ eight_rows (table_of s) → p ≡ prepared_for s e → ds ≡ drivers_for s e → count ≡ answer_count k
        → after ≡ sets lent 0 (map (λ i. row_from t p ds e (answer_of k i)) (below count)) → Outcome s e k lent (record { number = 0; filled = count }) after
    unfolding marked rows_after rows_of answers_on
    class_marked t p ds count after table made filled c w = record {
      told = rw (← x, c);
      written = rw (← x) (w ∙ rw (table, made, filled, c) (ap (λ (rs : List (List ℕ)). sets lent 0 rs) (rows_judged s e k (below (answer_count k))) ∙ rows_are));
    }
