-- A line is its pieces, one after the other: each piece is written by one call. Assumes nothing.
use Prim.Native.Nat.{ℕ, ◌+◌}
use mathlib.Core.List.{List, ◌++◌, append_assoc}
use lib.ListN.{get_or}
use Rattle.verdict.specs.declared.Verdict.{Verdict}
use Rattle.listing.specs.declared.Page.{Page}
use Rattle.listing.specs.Text.{ascii, decimal}
use Rattle.listing.specs.passes.Writes.{Writes}
use Rattle.listing.specs.Listing.{place, entry, verdict_line, lab_line}
use Rattle.listing.proofs.Writing.{◌then◌}

pub verdict_pieces : {p₀ p₁ p₂ p₃ p₄ p₅ : Page} (v : Verdict)
    → Writes p₀ (ascii "verdict " ++ decimal v.number) 18 p₁
    → Writes p₁ (ascii " cell " ++ place v.cell) 16 p₂
    → Writes p₂ (ascii " lab " ++ place v.lab) 15 p₃
    → Writes p₃ (ascii " apprentice " ++ decimal v.apprentice) 22 p₄
    → Writes p₄ (ascii "\n") 1 p₅
    → Writes p₀ (verdict_line v) 72 p₅
unfolding verdict_line
verdict_pieces v a b c d e = a then b then c then d then e

-- two bytes under one name
pair : {p q r : Page} {j k : ℕ} (name : List ℕ) (m n : ℕ) → Writes p (name ++ entry m) j q → Writes q (ascii " " ++ entry n) k r
    → Writes p (name ++ entry m ++ ascii " " ++ entry n) (j + k) r
pair name m n v w = rw (append_assoc (name ++ entry m) (ascii " ") (entry n)) (v then w)

pub lab_pieces : {p₀ p₁ p₂ p₃ p₄ p₅ p₆ p₇ p₈ p₉ p₁₀ : Page} (l : ℕ) (b : List ℕ)
    → Writes p₀ (ascii "lab " ++ decimal l) 14 p₁
    → Writes p₁ (ascii " clk " ++ entry (get_or b 0 0)) 15 p₂
    → Writes p₂ (ascii " " ++ entry (get_or b 1 0)) 11 p₃
    → Writes p₃ (ascii " ena " ++ entry (get_or b 2 0)) 15 p₄
    → Writes p₄ (ascii " " ++ entry (get_or b 3 0)) 11 p₅
    → Writes p₅ (ascii " aclr " ++ entry (get_or b 4 0)) 16 p₆
    → Writes p₆ (ascii " " ++ entry (get_or b 5 0)) 11 p₇
    → Writes p₇ (ascii " sclr " ++ entry (get_or b 6 0)) 16 p₈
    → Writes p₈ (ascii " sload " ++ entry (get_or b 7 0)) 17 p₉
    → Writes p₉ (ascii "\n") 1 p₁₀
    → Writes p₀ (lab_line l b) 127 p₁₀
unfolding lab_line
lab_pieces l b number clk₀ clk₁ ena₀ ena₁ aclr₀ aclr₁ sclr sload end =
    number
    then pair (ascii " clk ") (get_or b 0 0) (get_or b 1 0) clk₀ clk₁
    then pair (ascii " ena ") (get_or b 2 0) (get_or b 3 0) ena₀ ena₁
    then pair (ascii " aclr ") (get_or b 4 0) (get_or b 5 0) aclr₀ aclr₁
    then sclr
    then sload
    then end
