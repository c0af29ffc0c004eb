-- From opening to the end a reader gives exactly the sheet's records in order, up to the first that breaks its layout; there, and at the
-- end, it stays put, so that it says the same again for ever. This is said of the definitions that the readers' contracts use. Assumes nothing.
use Prim.Native.Nat.{ℕ, zero, suc, ◌+◌, ◌<◌}
use native.Mathlib.Omega.{arith}
use mathlib.Core.Path.{◌≡◌, refl, sym, ap, ◌∙◌}
use mathlib.Core.Bool.{Bool, true, false, cond, true≢false}
use mathlib.Core.List.{List, [], ◌∷◌, map}
use lib.Dec.{leb}
use borrow.Author.Tests.{le-leb, lt-leb}
use Rattle.std.specs.Prelude.{Option, Some, None}
use Rattle.sheet.specs.Lists.{from}
use Rattle.exercise.specs.Exercise.{net_count, cell_count}
use Rattle.exercise.specs.Record.{record_at}
use Rattle.answer.specs.Answer.{place_count, placed_at}
use Rattle.reader.specs.declared.Step.TheVariants as Where
use Rattle.reader.specs.Reader.{given, after, stays, and_later, given_up_to_broken, step_at, next_at, read_all}
use Rattle.reader.specs.Reader.{logic_cell_of, logic_cell_at, exercise_step_at, next_exercise, read_records, records, up_to_broken}
use Rattle.reader.specs.Reader.{answer_step_at, next_answer, read_places, places, places_up_to_broken}

-- ---- any sheet
module _ {A : Type 0} where
  stays_by : (b : Bool) (r : Option A) (at : ℕ) → stays (cond b Where.End (given r)) ≡ true → cond b at (after r at) ≡ at
  stays_by true r at h = refl
  stays_by false (Some x) at h = absurd (true≢false (sym h))
  stays_by false None at h = refl

  module _ (count : List ℕ → ℕ) (says : List ℕ → ℕ → Option A) (s : List ℕ) where
    -- one step of a reader that has not come to the end
    reads_one : (at calls : ℕ) (r : Option A) (rs : List (Option A)) → read_all count says calls s (at + 1) ≡ given_up_to_broken rs
        → and_later (given r) (read_all count says calls s (after r at)) ≡ given_up_to_broken (r ∷ rs)
    reads_one at calls (Some x) rs h = ap (λ l. Where.Record x ∷ l) h
    reads_one at calls None rs h = refl

    reads_from : (left calls : ℕ) (at : ℕ) → at + left ≡ count s → left < calls → read_all count says calls s at ≡ given_up_to_broken (map (says s) (from at left))
    unfolding read_all step_at next_at
    reads_from left zero at h l = absurd (omega arith)
    reads_from zero (suc calls) at h l = rw (le-leb (count s) at (omega arith)) refl
    reads_from (suc left) (suc calls) at h l =
        rw (lt-leb (count s) at (omega arith))
        (reads_one at calls (says s at) (map (says s) (from (suc at) left))
        (ap (read_all count says calls s) (omega arith) ∙ reads_from left calls (suc at) (omega arith) (omega arith)))

    -- at the end, and at a broken record, it stays put
    stays_at : (at : ℕ) → stays (step_at count says s at) ≡ true → next_at count says s at ≡ at
    unfolding step_at next_at
    stays_at at h = stays_by (leb (count s) at) (says s at) at h

-- ---- an exercise
cells_of : (e : List ℕ) (l : List ℕ) → map (logic_cell_at e) l ≡ map logic_cell_of (map (record_at (net_count e) e) l)
cells_of e [] = refl
cells_of e (i ∷ l) = ap (λ r. logic_cell_at e i ∷ r) (cells_of e l)

-- the reader of an exercise gives its records, up to the first broken one
pub exercise_whole : (e : List ℕ) (calls : ℕ) → cell_count e < calls → read_records calls e 0 ≡ up_to_broken (records e)
exercise_whole e calls l = reads_from cell_count logic_cell_at e (cell_count e) calls 0 (omega arith) l ∙ ap given_up_to_broken (cells_of e (from 0 (cell_count e)))

-- at the end, and at a broken record, it stays put, and says the same again
pub exercise_stays : (e : List ℕ) (at : ℕ) → stays (exercise_step_at e at) ≡ true → next_exercise e at ≡ at
unfolding next_at
exercise_stays e at h = stays_at cell_count logic_cell_at e at h

pub exercise_again : (e : List ℕ) (at : ℕ) → stays (exercise_step_at e at) ≡ true → exercise_step_at e (next_exercise e at) ≡ exercise_step_at e at
exercise_again e at h = ap (exercise_step_at e) (exercise_stays e at h)

-- ---- an answer
-- the reader of an answer gives its places, up to the first broken one, whatever their number
pub answer_whole : (a : List ℕ) (calls : ℕ) → place_count a < calls → read_places calls a 0 ≡ places_up_to_broken (places a)
answer_whole a calls l = reads_from place_count placed_at a (place_count a) calls 0 (omega arith) l

pub answer_stays : (a : List ℕ) (at : ℕ) → stays (answer_step_at a at) ≡ true → next_answer a at ≡ at
unfolding step_at
answer_stays a at h = stays_at place_count placed_at a at h

pub answer_again : (a : List ℕ) (at : ℕ) → stays (answer_step_at a at) ≡ true → answer_step_at a (next_answer a at) ≡ answer_step_at a at
answer_again a at h = ap (answer_step_at a) (answer_stays a at h)
