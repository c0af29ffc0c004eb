-- How the loop of `count_cells` goes: the cells that are left of the list make the rest of the counts and of the marks. And a list without cells
-- keeps every rule, has no route and no tries. Assumes nothing.
use Prim.Native.Nat.{ℕ, zero, suc, ◌+◌, ◌-◌, ◌≤◌, ◌<◌}
use mathlib.Core.Path.{◌≡◌, refl, sym, ◌∙◌}
use mathlib.Core.Bool.{Bool, true, false, cond}
use mathlib.Core.List.{List, [], ◌∷◌, map}
use native.Mathlib.Nat.{sub-zero}
use native.Mathlib.Omega.{arith}
use lib.ListN.{length, get_or, replicate}
use borrow.Author.Tests.{lt-ltb}
use Rattle.exercise.specs.declared.Record.{Record}
use Rattle.distinct.specs.declared.LabMarks.{LabMarks}
use Rattle.distinct.specs.passes.Marks.{Marking, mark_all}
use Rattle.distinct.specs.passes.UpToTwo.{codes_of}
use Rattle.entries.specs.Table.{Table}
use Rattle.route.specs.Route.{eight_bytes, lab_route_of}
use Rattle.route.proofs.AllWays.{no_needs_lem}
use Rattle.route.proofs.Tries.{no_tries}
use Rattle.lab_nets.specs.NetsIn.{nets_in}
use Rattle.lab_nets.specs.passes.Uses.{uses_of, mark_cells, nets_within}
use Rattle.lab_nets.proofs.Cells.{marks_cons}
use Rattle.lab_rules.specs.passes.Counts.{no_counts, counts_with, counts_all, broken_by, only_code, needs_held, result_from, tries_for, searched}
use Rattle.lab_rules.specs.declared.Counts.{Counts}
use Rattle.sheet.specs.Checks.{NONE}
use Rattle.lab_pass.specs.passes.Links.{walk}
use Rattle.lab_pass.specs.passes.Results.{marked_if, search_of}

-- the first of some cells is marked before the others
marked_cons : (b : Bool) (l : LabMarks) (m : Marking) (c : Record) (cs : List Record) → marked_if b l m (c ∷ cs) ≡ marked_if b l (cond b (mark_all l m (uses_of c)) m) cs
unfolding marked_if
marked_cons true l m c cs = rw marks_cons
marked_cons false l m c cs = refl

marked_none : (b : Bool) (l : LabMarks) (m : Marking) → marked_if b l m [] ≡ m
unfolding marked_if mark_cells mark_all
marked_none true l m = refl
marked_none false l m = refl

-- k of at most n cells are taken, and their nets marked where b
pub record Taken (get : ℕ → Record) (next : List ℕ) (n start : ℕ) (b : Bool) (l : LabMarks) (m₀ : Marking) (counts : Counts) (m : Marking) (at k : ℕ) : Type 0 where
  pub within : k ≤ n
  pub counted : counts_all no_counts (map get (walk next start n)) ≡ counts_all counts (map get (walk next at (n - k)))
  pub marked : marked_if b l m₀ (map get (walk next start n)) ≡ marked_if b l m (map get (walk next at (n - k)))

module _ (get : ℕ → Record) (next : List ℕ) (n start : ℕ) (b : Bool) (l : LabMarks) (m₀ : Marking) where
  pub take_starts : (counts : Counts) → counts ≡ no_counts → Taken get next n start b l m₀ counts m₀ start 0
  take_starts counts z = record { within = omega arith; counted = rw (sub-zero n, z); marked = rw (sub-zero n) }

  module _ (counts : Counts) (m : Marking) (at k : ℕ) (s : Taken get next n start b l m₀ counts m at k) where
    pub take_goes : (cell : Record) (counts' : Counts) (m' : Marking) (at' : ℕ) → k < n → at < length next → cell ≡ get at
        → counts' ≡ counts_with counts cell → m' ≡ cond b (mark_all l m (uses_of cell)) m → at' ≡ get_or next at NONE
        → Taken get next n start b l m₀ counts' m' at' (k + 1)
    unfolding walk counts_all
    take_goes cell counts' m' at' h w c p q r =
        let more : n - k ≡ suc (n - (k + 1)) = omega arith in
        record {
          within = omega arith;
          counted = s.counted ∙ rw (more, lt-ltb at (length next) w, p, c, r);
          marked = s.marked ∙ rw (more, lt-ltb at (length next) w, q, c, r, marked_cons);
        }

    pub take_ends : walk next at (n - k) ≡ []
        → (counts ≡ counts_all no_counts (map get (walk next start n))) × (m ≡ marked_if b l m₀ (map get (walk next start n)))
    unfolding counts_all
    take_ends z = (sym (s.counted ∙ rw z), sym (s.marked ∙ rw (z, marked_none)))

pub walk_all : (next : List ℕ) (at n k : ℕ) → n ≤ k → walk next at (n - k) ≡ []
unfolding walk
walk_all next at n k h = let none : n - k ≡ zero = omega arith in rw none

pub nothing_broken : (t : Table) (m : ℕ) → m ≡ 0 → searched t no_counts m ≡ record { result = record { number = 0; bytes = replicate 8 255 }; tries = 0 }
unfolding searched result_from tries_for broken_by needs_held codes_of only_code lab_route_of eight_bytes
nothing_broken t m z = rw (z, no_needs_lem t, no_tries t)

pub search_none : (t : Table) (get : ℕ → Record) → search_of t get [] ≡ record { result = record { number = 0; bytes = replicate 8 255 }; tries = 0 }
unfolding search_of counts_all nets_within nets_in
search_none t get = nothing_broken t 0 refl
