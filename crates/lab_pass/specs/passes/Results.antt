-- The result and the tries of each LAB from the lists of cells, the rows of route bytes and the list of tries. `t` is the entry table, `cell` gives what each
-- cell's record says. Assumes nothing.
use Rattle.std.specs.Prelude.{ℕ, zero, suc, ◌+◌, ◌*◌, ◌≡◌, ◌<◌, Bool, false, cond, not, List, Result, Ok, Err, map, length, get_or, set, eqb, ltb}
use lib.Seq.{sets}
use Rattle.sheet.specs.Lists.{first_from}
use Rattle.exercise.specs.declared.Record.{Record}
use Rattle.distinct.specs.declared.LabMarks.{LabMarks}
use Rattle.distinct.specs.passes.Marks.{Marking}
use Rattle.entries.specs.Table.{Table}
use Rattle.lab_nets.specs.passes.Uses.{mark_cells, nets_within}
use Rattle.lab_rules.specs.passes.Counts.{no_counts, counts_all, LabSearch, searched}
use Rattle.lab_rules.specs.Rules.{LabResult}
use Rattle.lab_rules.specs.declared.Counts.{Counts}
use Rattle.sheet.specs.Checks.{NONE}
use Rattle.lab_pass.specs.passes.Links.{walk}
use Rattle.sheet.specs.Refusals.{number_of}
use Rattle.lab_pass.specs.declared.BrokenLab.{BrokenLab}

-- the result and the tries of a LAB with these cells, handed over one by one
unfoldable pub search_of : Table → (ℕ → Record) → List ℕ → LabSearch
search_of t cell is =
    searched t (counts_all no_counts (map cell is)) (length (nets_within (map cell is)))

-- the two marks of LAB l
unfoldable pub marks_of : ℕ → LabMarks
marks_of l = record { read = 2 * l + 1; driven = 2 * l + 2 }

-- the marks of cells, where they are wanted
unfoldable pub marked_if : Bool → LabMarks → Marking → List Record → Marking
marked_if b l m cs = cond b (mark_cells l m cs) m

-- the counts and the number of nets say of a list of cells, on any board, what the cells handed over one by one say
pub record Tells (cell : ℕ → Record) (is : List ℕ) (k : Counts) (nets : ℕ) : Type 0 where
  pub told : (t : Table) → searched t k nets ≡ search_of t cell is

-- the result and the tries of LAB l
unfoldable pub search_at : Table → (ℕ → Record) → List ℕ → List ℕ → ℕ → LabSearch
search_at t cell first next l = search_of t cell (walk next (get_or first l NONE) 512)

abbrev pub result_at : Table → (ℕ → Record) → List ℕ → List ℕ → ℕ → LabResult
result_at t cell first next l = (search_at t cell first next l).result

abbrev pub tries_at : Table → (ℕ → Record) → List ℕ → List ℕ → ℕ → ℕ
tries_at t cell first next l = (search_at t cell first next l).tries

-- LAB l breaks one of 60 to 65
unfoldable pub broken_lab : Table → (ℕ → Record) → List ℕ → List ℕ → ℕ → Bool
broken_lab t cell first next l = not (eqb (result_at t cell first next l).number 0)

-- the lowest LAB that breaks one of 60 to 65 and the number, or 1,024 and 0
pub record LowestBroken : Type 0 where
  pub lab : ℕ
  pub number : ℕ

-- those that a call gives
abbrev pub lowest_from : {A : Type 0} → Result A BrokenLab → LowestBroken
lowest_from (Ok x) = record { lab = 1024; number = 0 }
lowest_from (Err b) = record { lab = b.lab; number = number_of b.refusal }

-- that of the LABs with these lists
unfoldable pub lowest_broken : Table → (ℕ → Record) → List ℕ → List ℕ → LowestBroken
lowest_broken t cell first next =
    let l = first_from (broken_lab t cell first next) 0 1024 in
    record { lab = l; number = cond (ltb l 1024) (result_at t cell first next l).number 0 }

-- LAB l has a cell
unfoldable pub has_cells : List ℕ → List ℕ → ℕ → Bool
has_cells first next l = ltb (get_or first l NONE) (length next)

-- where b is false, a test holds for none of n numbers from l on
pub record EmptyUnless (some : ℕ → Bool) (l n : ℕ) (b : Bool) : Type 0 where
  pub empty : b ≡ false → (k : ℕ) → k < n → some (l + k) ≡ false

-- the eight bytes b of LAB l, put into the rows: "8 bytes per LAB at 8 × LAB number"
unfoldable pub put_row : List ℕ → ℕ → List ℕ → List ℕ
put_row rows l b = sets rows (8 * l) b

-- the bytes of those LABs below k that pass a test, put into the rows
unfoldable pub put_rows : (ℕ → Bool) → (ℕ → List ℕ) → List ℕ → ℕ → List ℕ
put_rows some bytes rows zero = rows
put_rows some bytes rows (suc k) = cond (some k) (put_row (put_rows some bytes rows k) k (bytes k)) (put_rows some bytes rows k)

-- the tries of those LABs below k that pass a test, put into the list
unfoldable pub put_tries : (ℕ → Bool) → (ℕ → ℕ) → List ℕ → ℕ → List ℕ
put_tries some tries list zero = list
put_tries some tries list (suc k) = cond (some k) (set (put_tries some tries list k) k (tries k)) (put_tries some tries list k)

-- how many LABs the pass has searched where it stops at LAB l: up to that one, or all
abbrev pub searched_labs : ℕ → ℕ
searched_labs l = cond (ltb l 1024) (l + 1) l
