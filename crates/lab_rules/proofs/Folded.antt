-- A LAB's cells, handed over one by one, leave the counts of all of them; and of fit cells all nets that enter have a mark.
-- Assumes nothing.
use Prim.Native.Nat.{ℕ, ◌<◌}
use mathlib.Core.Path.{◌≡◌, refl, sym, ◌∙◌}
use mathlib.Core.Bool.{true, true≢false}
use mathlib.Core.List.{List, [], ◌∷◌, ◌++◌}
use native.Mathlib.Omega.{arith}
use Rattle.sheet.specs.Lists.{filterb, elemb}
use Rattle.sheet.proofs.Laws.{by_test}
use Rattle.sheet.specs.Signal.{is_net, net_of}
use Rattle.exercise.specs.declared.Record.{Record}
use Rattle.distinct.specs.passes.UpToTwo.{with_code, with_codes}
use Rattle.distinct.specs.declared.UpToTwo.{UpToTwo}
use Rattle.distinct.proofs.Rising.{map_in, in_filter}
use Rattle.distinct.proofs.Codes.{with_all}
use Rattle.distinct.proofs.Nets.{elem_in, in_elem}
use Rattle.lab_nets.specs.NetsIn.{inputs, nets_at, nets_in}
use Rattle.lab_nets.specs.Marked.{read_in}
use Rattle.lab_nets.specs.passes.Uses.{nets_within}
use Rattle.lab_nets.proofs.Cells.{all_within}
use Rattle.lab_rules.specs.declared.Counts.{Counts}
use Rattle.lab_rules.specs.Ports.{ena, clock, clock_pair, clear, synchronous, needed, in_lab}
use Rattle.lab_rules.specs.passes.Counts.{no_counts, counts_with, counts_all, counts_of, AllFit}

-- ---- counts
codes_append : (d : UpToTwo) (xs ys : List ℕ) → with_codes d (xs ++ ys) ≡ with_codes (with_codes d xs) ys
unfolding with_codes
codes_append d [] ys = refl
codes_append d (x ∷ xs) ys = codes_append (with_code d x) xs ys

-- the counts once the cells are handed over
abbrev counts_from : Counts → List Record → Counts
counts_from k cs = record {
  clocks = with_codes k.clocks (in_lab clock cs);
  pairs = with_codes k.pairs (in_lab clock_pair cs);
  clears = with_codes k.clears (in_lab clear cs);
  synchronous = with_codes k.synchronous (in_lab synchronous cs);
  enables = with_codes k.enables (in_lab (needed ena) cs);
}

counts_from_lem : (k : Counts) (cs : List Record) → counts_all k cs ≡ counts_from k cs
unfolding counts_all counts_with with_codes in_lab
counts_from_lem k [] = refl
counts_from_lem k (c ∷ cs) = simp codes_append (counts_from_lem (counts_with k c) cs)

-- 60 to 63
pub counts_are : (cs : List Record) → counts_all no_counts cs ≡ counts_of cs
unfolding counts_of
counts_are cs = counts_from_lem no_counts cs ∙ simp with_all

-- ---- nets
pub reads_low : (cs : List Record) → AllFit cs → (n : ℕ) → read_in cs n ≡ true → n < 1024
reads_low [] fit n h = absurd (true≢false (sym h))
reads_low (c ∷ cs) fit n h =
    by_test (elemb n (nets_at (inputs c)))
    (λ e. let g = map_in net_of n (filterb is_net (inputs c)) (elem_in n (nets_at (inputs c)) e) in
    let small = fit.0.small_inputs g.0 (in_elem g.0 (inputs c) (in_filter is_net g.0 (inputs c) g.1).0) in
    omega (arith, g.2))
    (λ e. reads_low cs fit.1 n (rw e at h))

-- 64
pub nets_are : (cs : List Record) → AllFit cs → nets_within cs ≡ nets_in cs
nets_are cs fit = all_within cs (reads_low cs fit)
