-- How bytes are stored one after the other, and how a loop stores parts of one length each. Assumes nothing.
use Prim.Native.Nat.{ℕ, zero, suc, ◌+◌, ◌*◌, ◌≤◌, ◌<◌}
use mathlib.Core.Path.{◌≡◌, refl, ap, ◌∙◌, sym}
use mathlib.Core.List.{List, [], ◌∷◌, ◌++◌, append-nil, append_assoc}
use native.Mathlib.Nat.{zero-add}
use native.Mathlib.Numerals.{add-one}
use native.Mathlib.Omega.{arith}
use borrow.Rule.Slice.PartMut.{put_mid}
use lib.ListN.{length, get_or, take, drop}
use lib.Seq.{take-suc, length-take-le, take-append_seam, drop-drop, sets, sets-eq}
use Rattle.sheet.specs.Lists.{concat_map, from, below}
use Rattle.sheet.specs.Bytes.{u16_bytes}
use Rattle.sheet.proofs.Lists.{sets_append, concat-append}
use Rattle.exercise.specs.Record.{record_bytes}
use Rattle.writer.proofs.Sheets.{parts_length}

-- ---- bytes in a row
-- a part of a list that is written over
pub part_stored : (l a b : List ℕ) (at k : ℕ) → at + k ≤ length l → k ≡ length a → b ≡ a → put_mid at k l b ≡ sets l at a
part_stored l a b at k h size same =
    rw (same, size, drop-drop (length a) at l) (sym (append_assoc (take at l) a (drop (at + length a) l)) ∙ sym (sets-eq a l at (omega arith)))

-- a piece and another right after it
pub then_put : (l m n : List ℕ) (at p : ℕ) (a b : List ℕ) → m ≡ sets l at a → p ≡ at + length a → n ≡ sets m p b → n ≡ sets l at (a ++ b)
then_put l m n at p a b s e t = t ∙ rw (s, e) (sets_append l at a b)

-- what is stored from the start on, where there is room for it
pub front_stored : (l a : List ℕ) → length a ≤ length l → sets l 0 a ≡ a ++ drop (length a) l
front_stored l a h = sets-eq a l 0 (omega arith) ∙ rw (zero-add (length a))

-- and it is then the front of the buffer
pub front_is : (l a to : List ℕ) (k : ℕ) → to ≡ sets l 0 a → length a ≡ k → k ≤ length l → take k to ≡ a
front_is l a to k s e h =
    ap (λ (m : ℕ). take m to) (sym e) ∙ ap (take (length a)) (s ∙ front_stored l a (rw e h)) ∙ take-append_seam a (drop (length a) l)

-- bytes are parts of one byte each
bytes_each : (xs : List ℕ) → concat_map (λ (n : ℕ). n ∷ []) xs ≡ xs
bytes_each [] = refl
bytes_each (x ∷ xs) = ap (λ (l : List ℕ). x ∷ l) (bytes_each xs)

pub flags_stored : (l m : List ℕ) (at : ℕ) (xs : List ℕ) → m ≡ sets l at (concat_map (λ (n : ℕ). n ∷ []) xs) → m ≡ sets l at xs
flags_stored l m at xs h = h ∙ ap (sets l at) (bytes_each xs)

-- ---- parts of one length, stored by a loop
-- the first i parts are stored
abbrev pub Stored : {A : Type 0} → (A → List ℕ) → List A → List ℕ → ℕ → List ℕ → ℕ → Type 0
Stored f xs lent at to i = to ≡ sets lent at (concat_map f (take i xs))

module _ {A : Type 0} (f : A → List ℕ) (xs : List A) (lent : List ℕ) (at : ℕ) where
  pub store_goes : (w : ℕ) → ((x : A) → length (f x) ≡ w) → (x : A) (to to' : List ℕ) (i k : ℕ) → Stored f xs lent at to i
      → i < length xs → x ≡ get_or xs i x → k ≡ w → to' ≡ sets to (at + k * i) (f x) → Stored f xs lent at to' (i + 1)
  store_goes w each x to to' i k s h e q t =
      let front = concat_map f (take i xs) in
      let size : length front ≡ k * i = parts_length w f each (take i xs) ∙ rw (q, length-take-le i xs (omega arith)) in
      let next : concat_map f (take (i + 1) xs) ≡ front ++ f x =
      rw (add-one i, take-suc xs i x h, concat-append f (take i xs) (get_or xs i x ∷ []), append-nil (f (get_or xs i x)), ← e) in
      then_put lent to to' at (at + k * i) front (f x) s (ap (◌+◌ at) (sym size)) t ∙ ap (sets lent at) (sym next)

-- the parts of a list, by their numbers
module _ {A : Type 0} (f : A → List ℕ) (d : A) where
  parts_shift : (xs : List A) (x : A) (i k : ℕ)
      → concat_map (λ j. f (get_or (x ∷ xs) j d)) (from (suc i) k) ≡ concat_map (λ j. f (get_or xs j d)) (from i k)
  parts_shift xs x i zero = refl
  parts_shift xs x i (suc k) = rw (parts_shift xs x (suc i) k)

  pub parts_by_number : (xs : List A) → concat_map (λ j. f (get_or xs j d)) (below (length xs)) ≡ concat_map f xs
  parts_by_number [] = refl
  parts_by_number (x ∷ xs) = rw (parts_shift xs x 0 (length xs), parts_by_number xs)

-- a cell's record is its twelve numbers
pub cell_bytes : (c : List ℕ) → length c ≡ 12 → record_bytes c ≡ concat_map u16_bytes c
unfolding record_bytes
cell_bytes c h = ap (λ (n : ℕ). concat_map (λ j. u16_bytes (get_or c j 0)) (below n)) (sym h) ∙ parts_by_number u16_bytes 0 c
