-- A number of a sheet, and its mark and version, put together again from what they say. Assumes nothing.
use Prim.Native.Nat.{ℕ, ◌+◌, ◌/◌, ◌%◌}
use mathlib.Core.Path.{◌≡◌}
use mathlib.Core.Bool.{false, ◌&&◌}
use mathlib.Core.List.{List, ◌∷◌, ◌++◌}
use native.Mathlib.Omega.{arith}
use lib.Dec.{eqb}
use borrow.Author.Tests.{eqb-true, not-false}
use Rattle.sheet.specs.Bytes.{byte_at, u16_at, u16_bytes, AllBytes}
use Rattle.sheet.specs.Header.{wrong_mark, wrong_version}
use Rattle.sheet.proofs.Laws.{and_parts}

-- two bytes are those of the number that they say, whatever follows
pub two_again : (s : List ℕ) (k : ℕ) {xs ys : List ℕ} → AllBytes s → xs ≡ ys
    → u16_bytes (u16_at s k) ++ xs ≡ byte_at s k ∷ byte_at s (k + 1) ∷ ys
two_again s k b e =
    let low = b k in
    let l : u16_at s k % 256 ≡ byte_at s k = omega arith in
    let h : u16_at s k / 256 ≡ byte_at s (k + 1) = omega arith in
    rw (l, h, e)

-- a version that is not wrong is 1
pub version_1 : (s : List ℕ) → wrong_version s ≡ false → u16_at s 3 ≡ 1
unfolding wrong_version
version_1 s v = eqb-true (u16_at s 3) 1 (not-false _ v)

-- the mark and the version are those that they say, too
pub mark_again : (third version : ℕ) (s : List ℕ) {xs ys : List ℕ} → AllBytes s → wrong_mark third s ≡ false → u16_at s 3 ≡ version → xs ≡ ys
    → 76 ∷ 88 ∷ third ∷ u16_bytes version ++ xs ≡ byte_at s 0 ∷ byte_at s 1 ∷ byte_at s 2 ∷ byte_at s 3 ∷ byte_at s 4 ∷ ys
unfolding wrong_mark
mark_again third version s b m v e =
    let (lx, z) = and_parts (eqb (byte_at s 0) 76 && eqb (byte_at s 1) 88) (eqb (byte_at s 2) third) (not-false _ m) in
    let (l, x) = and_parts (eqb (byte_at s 0) 76) (eqb (byte_at s 1) 88) lx in
    rw (eqb-true (byte_at s 0) 76 l, eqb-true (byte_at s 1) 88 x, eqb-true (byte_at s 2) third z, ← v, two_again s 3 b e)
