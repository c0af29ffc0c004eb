-- How the pass of 16 goes on to the next cell. Assumes nothing.
use Prim.Native.Nat.{ℕ, zero, suc, ◌+◌, ◌-◌, ◌<◌, ◌≤◌}
use native.Mathlib.Omega.{arith}
use native.Mathlib.Numerals.{add-one}
use mathlib.Core.Path.{◌≡◌, ap, ◌∙◌}
use mathlib.Core.Bool.{Bool, true, false}
use mathlib.Core.List.{List}
use lib.ListN.{replicate}
use borrow.Author.Tests.{lt-ltb, le-ltb}
use Rattle.std.specs.Prelude.{Some, None}
use Rattle.exercise.specs.Record.{outputs}
use Rattle.exercise.specs.declared.Record.{Record}
use Rattle.tables.specs.passes.Tables.{marked_twice, mark_each, double_from, double_number, double_cell}

-- a pass over the cells that marks what they drive: it has come to cell i with the marks t, and what it finds is the same from here
pub record Passed (get : ℕ → Record) (n : ℕ) (t : List Bool) (i : ℕ) : Type 0 where
  pub same : double_number get n ≡ double_from get t i (n - i)

module _ (get : ℕ → Record) (n : ℕ) where
  pub pass_starts : Passed get n (replicate 1024 false) 0
  pass_starts = record { same = ap (double_from get (replicate 1024 false) 0) (omega arith) }

  pub pass_ends : (t : List Bool) (i : ℕ) → Passed get n t i → n ≤ i → None ≡ double_cell get n
  unfolding double_from
  pass_ends t i p h =
      let none : n - i ≡ zero = omega arith in
      let found : double_number get n ≡ i = p.same ∙ rw none in
      rw (found, le-ltb i n h)

  module _ (t : List Bool) (i : ℕ) (cell : Record) (b : Bool) (p : Passed get n t i) (h : i < n) (k : cell ≡ get i) (m : b ≡ marked_twice t (outputs cell)) where
    pub pass_stops : b ≡ true → Some (record { 0 = i }) ≡ double_cell get n
    unfolding double_from
    pass_stops l =
        let more : n - i ≡ suc (n - (i + 1)) = omega arith in
        let found : double_number get n ≡ i = p.same ∙ rw (more, ← k, ← m, l) in
        rw (found, lt-ltb i n h)

    pub pass_goes : (u : List Bool) → b ≡ false → u ≡ mark_each t (outputs cell) → Passed get n u (i + 1)
    unfolding double_from
    pass_goes u l d =
        let more : n - i ≡ suc (n - (i + 1)) = omega arith in
        record { same = p.same ∙ rw (more, ← k, ← m, l, ← d, add-one) }

pub ruleset pass = (pass_starts, pass_ends, pass_stops, pass_goes)
