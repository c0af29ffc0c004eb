-- What the two laws of every writer share: lists read number by number, a sheet put together again from its parts, and
-- the laws themselves from what is proved of a format. Assumes nothing.
use Prim.Native.Nat.{ℕ, zero, suc, ◌+◌, ◌*◌, ◌/◌, ◌%◌, ◌≤◌, ◌<◌}
use mathlib.Core.Path.{◌≡◌, refl, sym, ap, ◌∙◌}
use mathlib.Core.List.{List, [], ◌∷◌, ◌++◌, map}
use native.Mathlib.Nat.{mul-zero, mul-suc, add_comm}
use native.Mathlib.Omega.{arith}
use lib.ListN.{length, get_or, take, drop, length-drop, take-append-drop}
use lib.Seq.{length-take-le, take_all, take-add, drop-drop, get_or-take, get_or-drop, take-append_seam, drop-append_seam}
use Rattle.sheet.specs.Lists.{concat_map, Every, from, below}
use Rattle.sheet.specs.Bytes.{byte_at, AllBytes}
use Rattle.writer.specs.Laws.{Format, TwoLaws}

-- ---- lists
pub every_at : {A : Type 0} (P : A → Type 0) (d : A) (xs : List A) → Every P xs → (i : ℕ) → i < length xs → P (get_or xs i d)
every_at P d [] h i l = absurd (omega arith)
every_at P d (x ∷ xs) h zero l = h.0
every_at P d (x ∷ xs) h (suc i) l = every_at P d xs h.1 i (omega arith)

module _ {A : Type 0} (g : ℕ → A) where
  -- a table of what a list has at each place is the list
  table_from : (d : A) (b : ℕ) (xs : List A) → ((i : ℕ) → i < length xs → g (b + i) ≡ get_or xs i d) → map g (from b (length xs)) ≡ xs
  table_from d b [] h = refl
  table_from d b (x ∷ xs) h =
      let first : g b ≡ x = ap g (omega arith) ∙ h 0 (omega arith) in
      rw (first, table_from d (suc b) xs (λ i l. ap g (omega arith) ∙ h (suc i) (omega arith)))

  pub table_is : (d : A) (xs : List A) → ((i : ℕ) → i < length xs → g i ≡ get_or xs i d) → map g (below (length xs)) ≡ xs
  table_is d xs h = table_from d 0 xs (λ i l. ap g (omega arith) ∙ h i l)

pub bytes_front : (s : List ℕ) (n : ℕ) → n ≤ length s → map (byte_at s) (below n) ≡ take n s
bytes_front s n h =
    let size = length-take-le n s h in
    rw size at (table_is (byte_at s) 0 (take n s) (λ i l. sym (get_or-take n s i 0 (omega arith))))

pub bytes_whole : (s : List ℕ) (n : ℕ) → length s ≡ n → map (byte_at s) (below n) ≡ s
bytes_whole s n h = bytes_front s n (omega arith) ∙ take_all n s (omega arith)

-- ---- bytes
pub joined : (n : ℕ) → n % 256 + 256 * (n / 256) ≡ n
joined n = omega arith

pub part_bytes : (s : List ℕ) (start size : ℕ) → AllBytes s → AllBytes (take size (drop start s))
part_bytes s start size b = front size (drop start s) (λ i. rw (get_or-drop start s i 0) (b (start + i)))
  where
    front : (n : ℕ) (l : List ℕ) → AllBytes l → AllBytes (take n l)
    front zero l b i = omega arith
    front (suc n) [] b i = omega arith
    front (suc n) (x ∷ l) b zero = b zero
    front (suc n) (x ∷ l) b (suc i) = front n l (λ j. b (suc j)) i

-- ---- a sheet of a head and n parts, each the bytes of what it says
module _ (h w : ℕ) (bytes : List ℕ → List ℕ) (s : List ℕ) (g : ℕ → List ℕ) where
  parts_from : (b n : ℕ) → ((i : ℕ) → i < b + n → bytes (g i) ≡ take w (drop (h + w * i) s))
      → concat_map bytes (map g (from b n)) ≡ take (w * n) (drop (h + w * b) s)
  parts_from b zero e = rw (mul-zero w)
  parts_from b (suc n) e =
      let next : h + w * suc b ≡ h + w * b + w = rw (mul-suc w b) (omega arith) in
      let d = drop (h + w * b) s in
      rw (e b (omega arith), parts_from (suc b) n (λ i l. e i (omega arith)), next, mul-suc w n, add_comm (w * n) w)
      (rw (take-add w (w * n) d, drop-drop w (h + w * b) s))

  pub sheet_again : (n : ℕ) → length s ≡ h + w * n → ((i : ℕ) → i < n → bytes (g i) ≡ take w (drop (h + w * i) s))
      → take h s ++ concat_map bytes (map g (below n)) ≡ s
  sheet_again n size e =
      let rest : length (drop h s) ≤ w * n = rw (length-drop h s, size) (omega arith) in
      let start : h + w * 0 ≡ h = omega arith in
      rw (parts_from 0 n (λ i l. e i (omega arith)), start, take_all (w * n) (drop h s) rest) (take-append-drop h s)

-- ---- the two laws of a format, from what it writes where it does not refuse, and from a sheet that passes
module _ {A : Type 0} (F : Format A)
    (writes : (x : A) (room : ℕ) → F.Given x → F.refusal x room ≡ 0
    → (length (F.sheet x) ≤ room) × F.Passes (F.sheet x) × (F.says (F.sheet x) ≡ x))
    (again : (s : List ℕ) → AllBytes s → (room : ℕ) → F.Passes s → length s ≤ room
    → (F.sheet (F.says s) ≡ s) × (F.refusal (F.says s) room ≡ 0)) where
  pub two_laws : TwoLaws F
  two_laws = record {
    reads_back = λ x lent given h.
        let (fits, passes, same) = writes x (length lent) given h in
        let s = F.sheet x in
        let front = take-append_seam s (drop (length s) lent) in
        record {
          within = rw h fits;
          passes = rw (h, front) passes;
          same = rw (h, front) same;
          stays = rw h (drop-append_seam s (drop (length s) lent));
        };
    written_again = λ s lent b p fits.
        let (same, free) = again s b (length lent) p fits in
        record { not_refused = free; same_length = rw (free, same); same_bytes = rw (free, same) };
  }
