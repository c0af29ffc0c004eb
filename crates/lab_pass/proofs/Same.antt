-- Counts and nets in that `==` finds the same are equal, so a LAB with the counts and the nets in of another has its result and its tries, and one with nothing
-- counted keeps every rule, has no route and no tries. Assumes nothing.
use Prim.Native.Nat.{ℕ}
use mathlib.Core.Path.{◌≡◌, refl, sym, ◌∙◌}
use mathlib.Core.Bool.{Bool, true}
use mathlib.Core.List.{List}
use lib.ListN.{replicate}
use borrow.Author.Tests.{eqb-true, eq-eqb}
use Rattle.sheet.proofs.Laws.{and_parts}
use Rattle.exercise.specs.declared.Record.{Record}
use Rattle.lab_rules.proofs.Same.{same_counts}
use Rattle.entries.specs.Table.{Table}
use Rattle.lab_rules.specs.passes.Counts.{no_counts, LabSearch, searched}
use Rattle.lab_rules.specs.declared.Counts.{Counts}
use Rattle.lab_pass.specs.declared.Counted.{Counted}
use Rattle.lab_pass.specs.contracts.CountedPartialEq.TheImpl.{ghosts}
use Rattle.lab_rules.specs.contracts.CountsPartialEq.TheImpl.{ghosts as counts}
use Rattle.distinct.specs.contracts.UpToTwoPartialEq.TheImpl.{ghosts as codes}
use Rattle.distinct.specs.declared.UpToTwo.{UpToTwo}
use Rattle.std.proofs.Common.{rules}
use lib.Dec.{eqb}
use Rattle.std.specs.Prelude.{IsTrue}
use Rattle.lab_pass.specs.passes.Results.{search_of, Tells}
use Rattle.lab_pass.proofs.Taking.{nothing_broken}

counted_equal : (k k' : Counts) (n n' : ℕ) → k ≡ k' → n ≡ n' → ◌≡◌ {A = Counted} (record { counts = k; nets = n }) (record { counts = k'; nets = n' })
counted_equal k k' n n' h i = rw (h, i)

same_counted : (a b : Counted) → ghosts.eq a b ≡ true → a ≡ b
same_counted a b h =
    let e = and_parts (counts.eq a.counts b.counts) (eqb a.nets b.nets) h in
    counted_equal _ _ _ _ (same_counts a.counts b.counts e.0) (eqb-true a.nets b.nets e.1)

pub same_told : (a b : Counted) (s : Bool) → s ≡ ghosts.eq a b → IsTrue s → a ≡ b
same_told a b s q h = same_counted a b (sym q ∙ h)

codes_again : (a : UpToTwo) → codes.eq a a ≡ true
codes_again a = search rules

counts_again : (a : Counts) → counts.eq a a ≡ true
counts_again a = rw (codes_again a.clocks, codes_again a.pairs, codes_again a.clears, codes_again a.synchronous, codes_again a.enables)

-- and what is the same `==` finds so
pub same_found : (a b : Counted) (s : Bool) → s ≡ ghosts.eq a b → a ≡ b → IsTrue s
same_found a b s q e =
    let again : ghosts.eq b b ≡ true = rw (counts_again b.counts, eq-eqb b.nets b.nets refl) in
    q ∙ rw e again

pub search_again : (t : Table) (a b : Counted) → a ≡ b → {r : LabSearch} → r ≡ searched t b.counts b.nets → r ≡ searched t a.counts a.nets
search_again t a b e z = z ∙ rw e

module _ (t : Table) (a b : Counted) (s : Bool) (q : s ≡ ghosts.eq a b) (h : s ≡ true) where
  pub same_search : {r : LabSearch} → r ≡ searched t b.counts b.nets → r ≡ searched t a.counts a.nets
  same_search z = search_again t a b (same_told a b s q h) z

  -- nothing is counted in b
  pub idle_search : b.counts ≡ no_counts → b.nets ≡ 0 → (get : ℕ → Record) (is : List ℕ) → Tells get is a.counts a.nets
      → ◌≡◌ {A = LabSearch} (record { result = record { number = 0; bytes = replicate 8 255 }; tries = 0 }) (search_of t get is)
  idle_search n z get is w = same_search (sym (rw (n, z) (nothing_broken t 0 refl))) ∙ w.told t
