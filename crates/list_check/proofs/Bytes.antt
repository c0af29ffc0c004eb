-- How the bytes of a record are put one number after the other. Assumes nothing.
use Prim.Native.Nat.{ℕ, zero, suc, ◌+◌, ◌*◌, ◌-◌, ◌≤◌, ◌<◌}
use mathlib.Core.Path.{◌≡◌, refl, sym, ap, ◌∙◌}
use mathlib.Core.List.{List, ◌∷◌, ◌++◌, append_assoc, append-nil}
use native.Mathlib.Omega.{arith}
use native.Mathlib.Numerals.{add-one}
use lib.ListN.{length, get_or, replicate, length-append}
use borrow.Rule.Slice.PartMut.{put_mid}
use Rattle.std.proofs.lemmas.List.{take_at, drop_at}
use Rattle.sheet.specs.Bytes.{u16_bytes}
use Rattle.sheet.specs.Lists.{concat_map, below}
use Rattle.sheet.proofs.Lists.{concat-suc}
use Rattle.exercise.specs.Record.{Cell}

-- the bytes of the first n numbers
abbrev pub bytes_to : Cell → ℕ → List ℕ
bytes_to c n = concat_map (λ j. u16_bytes (get_or c j 0)) (below n)

bytes_long : (c : Cell) (n : ℕ) → length (bytes_to c n) ≡ 2 * n
bytes_long c zero = refl
bytes_long c (suc n) =
    ap length (concat-suc (λ j. u16_bytes (get_or c j 0)) n) ∙ length-append (bytes_to c n) (u16_bytes (get_or c n 0))
    ∙ (let rest = bytes_long c n in omega arith)

-- those stand before zeros
pub record Put (c : Cell) (bytes : List ℕ) (n : ℕ) : Type 0 where
  pub within : n ≤ 12
  pub put : bytes ≡ bytes_to c n ++ replicate (24 - 2 * n) 0

pub put_starts : (c : Cell) → Put c (replicate 24 0) 0
put_starts c = record { within = omega arith; put = refl }

pub put_goes : (c : Cell) (bytes two : List ℕ) (n k : ℕ) → Put c bytes n → n < 12 → k ≡ 2 → two ≡ u16_bytes (get_or c n 0) → Put c (put_mid (2 * n) k bytes two) (n + 1)
put_goes c bytes two n k s h e q =
    let left : 24 - 2 * n ≡ suc (suc (24 - 2 * (n + 1))) = omega arith in
    let zeros : List ℕ = replicate (24 - 2 * (n + 1)) 0 in
    let more : bytes_to c (n + 1) ≡ bytes_to c n ++ u16_bytes (get_or c n 0) = rw add-one (concat-suc (λ j. u16_bytes (get_or c j 0)) n) in
    record {
      within = omega arith;
      put =
          rw (e, q, s.put, left, take_at (bytes_to c n) (0 ∷ 0 ∷ zeros) (2 * n) (bytes_long c n), drop_at (bytes_to c n) (0 ∷ 0 ∷ zeros) (2 * n) (bytes_long c n))
          (sym (ap (λ (l : List ℕ). l ++ zeros) more ∙ append_assoc (bytes_to c n) (u16_bytes (get_or c n 0)) zeros));
    }

pub put_ends : (c : Cell) (bytes : List ℕ) (n : ℕ) → Put c bytes n → 12 ≤ n → bytes ≡ bytes_to c 12
put_ends c bytes n s h =
    let all : n ≡ 12 = omega (arith, s.within) in
    s.put ∙ rw all (append-nil (bytes_to c 12))
