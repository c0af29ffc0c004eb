-- What is prepared once for a settings sheet and an exercise serves every answer. `s` is the settings sheet, `e` the exercise, `a` the answer.
-- The names from `passes` are what the contracts of `prepare` and `judge_prepared` promise; their text need not be read.
-- Assumes nothing.
use Rattle.std.specs.Prelude.{ℕ, ◌≡◌, List}
use Rattle.entries.specs.Table.{eight_rows}
use Rattle.settings.specs.Settings.{table_of}
use Rattle.judge.specs.Call.{call}
use Rattle.judge.specs.Judge.{checks, first_broken}
use Rattle.judge.specs.passes.Preparing.{prepared_for, drivers_for, found_from}

-- THE LAW, for every settings sheet, exercise and answer. `prepare` makes `prepared_for s e` and the table of drivers `drivers_for s e`; `judge_prepared`
-- finds `found_from` of what it is given. Given these and the eight rows of the table in force, it finds what the first broken check finds, with a route
-- buffer and a list of tries of the right length
unfoldable pub PreparedServes : Type 0
PreparedServes = (s e a : List ℕ)
    → found_from (eight_rows (table_of s)) (prepared_for s e) (drivers_for s e) e a ≡ first_broken (checks (call s e a 8192 1024))
