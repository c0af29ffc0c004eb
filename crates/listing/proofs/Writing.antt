-- How texts are written one after the other. Assumes nothing.
use Prim.Native.Nat.{ℕ, ◌+◌, ◌≤◌, ◌<◌}
use mathlib.Core.Path.{◌≡◌, refl, sym, ◌∙◌}
use mathlib.Core.List.{List, [], ◌∷◌, ◌++◌}
use native.Mathlib.Omega.{arith}
use lib.ListN.{length, get_or, take, drop, length-append}
use lib.Seq.{sets-eq, take-append_seam}
use Rattle.std.proofs.lemmas.List.{take_more}
use Rattle.sheet.proofs.Lists.{sets_append}
use Rattle.listing.specs.declared.Page.{Page}
use Rattle.listing.specs.Text.{overwrite}
use Rattle.listing.specs.passes.Writes.{Writes}

-- ---- the buffer
-- a text and another after it are one text
over_append : (l : List ℕ) (at : ℕ) (a b : List ℕ) → overwrite (overwrite l at a) (at + length a) b ≡ overwrite l at (a ++ b)
unfolding overwrite
over_append l at a b = sets_append l at a b

over_none : (l : List ℕ) (at : ℕ) → overwrite l at [] ≡ l
unfolding overwrite
over_none l at = refl

-- where the buffer has room, its first bytes are then the text
pub over_reads_back : (l a : List ℕ) → length a ≤ length l → take (length a) (overwrite l 0 a) ≡ a
unfolding overwrite
over_reads_back l a h = rw (sets-eq a l 0 (omega arith)) (take-append_seam a (drop (0 + length a) l))

-- ---- pieces in a row
pub nothing : (p : Page) (most : ℕ) → Writes p [] most p
nothing p most = record { stored = sym (over_none p.out.now p.at); past = omega arith; short = omega arith; same_reference = refl }

infixl 5 ◌then◌
pub ◌then◌ : {p q r : Page} {a b : List ℕ} {j k : ℕ} → Writes p a j q → Writes q b k r → Writes p (a ++ b) (j + k) r
◌then◌ {p} {q} {r} {a} {b} {j} {k} v w = record {
  stored = w.stored ∙ rw (v.stored, v.past) (over_append p.out.now p.at a b);
  past = omega (arith, w.past, v.past, length-append a b);
  short = omega (arith, w.short, v.short);
  same_reference = w.same_reference ∙ v.same_reference;
}

-- the bound may be any larger number
pub within : {p q : Page} {a : List ℕ} {j : ℕ} (k : ℕ) → j ≤ k → Writes p a j q → Writes p a k q
within k h w = record { stored = w.stored; past = w.past; short = omega (arith, w.short); same_reference = w.same_reference }

-- a text, byte by byte
pub one_more : {p q r : Page} {j : ℕ} (text : List ℕ) (i : ℕ) → i < length text → Writes p (take i text) j q → Writes q (get_or text i 0 ∷ []) 1 r
    → Writes p (take (i + 1) text) (j + 1) r
one_more text i h v w = rw (take_more text i 0 h) (v then w)
