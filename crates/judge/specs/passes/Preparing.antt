-- What is made once for a settings sheet and an exercise, and what a judgement finds from it: `t` is the entry table, `p` what was made, `ds` the table of
-- drivers, `s` the settings, `e` the exercise, `a` the answer. Assumes nothing.
use Rattle.std.specs.Prelude.{ℕ, cond, List, ◌++◌, replicate, eqb, Result, Ok, Err}
use Rattle.sheet.specs.Checks.{NONE}
use Rattle.exercise.specs.Exercise.{cell_count}
use Rattle.exercise.specs.passes.Known.{known_at}
use Rattle.entries.specs.Table.{Table}
use Rattle.tables.specs.passes.Tables.{drivers_below}
use Rattle.lab_pass.specs.passes.Links.{Links, link_below}
use Rattle.lab_pass.specs.passes.Results.{result_at, tries_at, lowest_broken, has_cells, put_rows, put_tries, searched_labs}
use Rattle.verdict.specs.declared.Finding.{Finding}
use Rattle.judge.specs.declared.Prepared.{Prepared}
use Rattle.judge.specs.Judge.{settings_group, exercise_group, answer_group, cell_group, first_broken}
use Rattle.verdict.specs.Verdicts.{legal}
use Rattle.judge.specs.passes.Stages.{numbered_lab, placed_by}

-- what an outcome finds whose error is a finding
abbrev pub finding_in : {A : Type 0} → Result A Finding → Finding
finding_in (Ok x) = legal
finding_in (Err f) = f

-- one finding, and the next one where it is nothing
abbrev pub then : Finding → Finding → Finding
then f g = cond (eqb f.number 0) g f

-- ---- for a settings sheet and an exercise

-- 70 to 75, then 10 to 16: all that is checked before the answer
unfoldable pub early_in : List ℕ → List ℕ → Finding
early_in s e = first_broken (settings_group s ++ exercise_group e)

-- what is found before the answer, and what is found by all checks that no answer changes, 30 to 44 too
unfoldable pub prepared_for : List ℕ → List ℕ → Prepared
prepared_for s e = record { early = early_in s e; fixed = first_broken ((settings_group s ++ exercise_group e) ++ cell_group e) }

-- the table of drivers, empty where something is found before the answer
unfoldable pub drivers_for : List ℕ → List ℕ → List ℕ
drivers_for s e = cond (eqb (early_in s e).number 0) (drivers_below (known_at e) (replicate 1024 NONE) (cell_count e)) (replicate 1024 NONE)

-- ---- for an answer

-- 10 to 51 and 70 to 75
unfoldable pub found_to51 : Prepared → List ℕ → List ℕ → List ℕ → Finding
found_to51 p ds e a =
    then p.early (then (first_broken (answer_group e a)) (then p.fixed (placed_by ds (known_at e) (cell_count e) e a)))

-- the lists by LAB of n cells
abbrev pub linked : List ℕ → ℕ → Links
linked a n = link_below a (record { first = replicate 1024 NONE; next = replicate 512 NONE }) n

-- 60 to 65
unfoldable pub found_in_labs : Table → List ℕ → List ℕ → Finding
found_in_labs t e a =
    numbered_lab (λ l. (result_at t (known_at e) (linked a (cell_count e)).first (linked a (cell_count e)).next l).number)

-- the route bytes of the occupied LABs below the first broken one, put into the rows
unfoldable pub rows_of_labs : Table → List ℕ → List ℕ → List ℕ → List ℕ
rows_of_labs t e a rows =
    put_rows (has_cells (linked a (cell_count e)).first (linked a (cell_count e)).next)
    (λ l. (result_at t (known_at e) (linked a (cell_count e)).first (linked a (cell_count e)).next l).bytes)
    rows
    (lowest_broken t (known_at e) (linked a (cell_count e)).first (linked a (cell_count e)).next).lab

-- the tries of the occupied LABs up to the first broken one, put into the list
unfoldable pub tries_of_labs : Table → List ℕ → List ℕ → List ℕ → List ℕ
tries_of_labs t e a list =
    put_tries (has_cells (linked a (cell_count e)).first (linked a (cell_count e)).next)
    (tries_at t (known_at e) (linked a (cell_count e)).first (linked a (cell_count e)).next)
    list
    (searched_labs (lowest_broken t (known_at e) (linked a (cell_count e)).first (linked a (cell_count e)).next).lab)

-- all numbers but 1 and 3
unfoldable pub found_from : Table → Prepared → List ℕ → List ℕ → List ℕ → Finding
found_from t p ds e a = then (found_to51 p ds e a) (found_in_labs t e a)
