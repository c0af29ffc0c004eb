-- The two ways out of `listing`: the verdict line alone, or with the lines of the LABs after it. Assumes nothing.
use Prim.Native.Nat.{ℕ}
use mathlib.Core.Path.{◌≡◌, sym, ap, ◌∙◌}
use mathlib.Core.Bool.{Bool}
use mathlib.Core.List.{List}
use native.Mathlib.Omega.{arith}
use borrow.Author.Tests.{eq-eqb, ne_eqb}
use lib.ListN.{length, replicate, length-replicate}
use Rattle.exercise.specs.Exercise.{cell_count}
use Rattle.verdict.specs.declared.Verdict.{Verdict}
use Rattle.judge.specs.Call.{call}
use Rattle.judge.specs.Judge.{judged, routed}
use Rattle.listing.specs.declared.Page.{Page}
use Rattle.listing.specs.Text.{MOST}
use Rattle.listing.specs.passes.Writes.{Writes}
use Rattle.listing.specs.Listing.{verdict_line, lab_lines, listing_call, listing}
use Rattle.listing.specs.passes.Marks.{marks_of, lines_below}
use Rattle.listing.proofs.Writing.{◌then◌, nothing, within}
use Rattle.listing.proofs.Marked.{legal_lines}

-- the route buffer before the verdict
abbrev fresh : List ℕ
fresh = replicate 8192 255

-- the list of tries
abbrev zeros : List ℕ
zeros = replicate 1024 0

-- the verdict v, from a route buffer that was full of 255s
module _ (s e a : List ℕ) (v : Verdict) (verdict : v ≡ judged (call s e a (length fresh) (length zeros)))
    {p q : Page} (first : Writes p (verdict_line v) 72 q) where
  is_judged : v ≡ judged (listing_call s e a)
  is_judged = verdict ∙ rw (length-replicate {A = ℕ} 8192 255, length-replicate {A = ℕ} 1024 0)

  pub refused : (v.number ≡ 0 → ⊥) → Writes p (listing s e a) MOST q
  unfolding listing
  refused h = rw (← is_judged, ne_eqb v.number 0 h) (within MOST (omega arith) (first then nothing q 0))

  pub legal : {r : Page} (route : List ℕ) (marks : List Bool) → v.number ≡ 0 → route ≡ routed (call s e a (length fresh) (length zeros)) fresh
      → marks ≡ marks_of a (cell_count e) → Writes q (lines_below marks route 1024) 130048 r → Writes p (listing s e a) MOST r
  unfolding listing
  legal {r} route marks z routes k w =
      let zero : (judged (listing_call s e a)).number ≡ 0 = ap (λ (u : Verdict). u.number) (sym is_judged) ∙ z in
      let lines : lines_below marks route 1024 ≡ lab_lines (listing_call s e a) =
      rw (routes, k, length-replicate {A = ℕ} 8192 255, length-replicate {A = ℕ} 1024 0) (legal_lines (listing_call s e a) fresh zero) in
      let more : Writes q (lab_lines (listing_call s e a)) 130048 r = rw lines at w in
      rw (← is_judged, eq-eqb v.number 0 z) (first then more)
