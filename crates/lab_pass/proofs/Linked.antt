-- Walking a LAB's list gives the LAB's cells, rising. Once the cells from i on are linked, each list holds those of its LAB; linking the cell before
-- them changes no other list, since no list holds it yet. Assumes nothing.
use Prim.Native.Nat.{ℕ, zero, suc, ◌-◌, ◌≤◌, ◌<◌}
use mathlib.Core.Path.{◌≡◌, refl, sym, ap, ◌∙◌}
use mathlib.Core.Bool.{Bool}
use mathlib.Core.List.{List, [], ◌∷◌}
use native.Mathlib.Nat.{sub-zero}
use native.Mathlib.Omega.{arith}
use lib.ListN.{length, get_or, set, replicate, length-set, length-replicate, get_or-replicate}
use lib.Seq.{get_or-set_same, get_or-set_other}
use lib.Dec.{eqb, ltb}
use Rattle.std.specs.Prelude.{Some, None, slice_get}
use Rattle.std.proofs.lemmas.Option.{get_or_from_slice_get, slice_get-get_or, slice_get_past}
use borrow.Author.Tests.{ltb-true, ltb-false, lt-ltb, le-ltb, eqb-true, eqb-false}
use Rattle.sheet.specs.Lists.{filterb, from}
use Rattle.sheet.proofs.Laws.{by_test}
use Rattle.sheet.specs.Checks.{NONE}
use Rattle.placing.specs.Places.{lab_at}
use Rattle.placing.specs.Members.{members}
use Rattle.lab_pass.specs.passes.Links.{Links, link, link_below, walk}

-- ---- walks
-- what stands behind a cell, and that a list has come to its end
pub after_cell : (next : List ℕ) (s x : ℕ) → Some x ≡ slice_get next s → (s < length next) × (x ≡ get_or next s NONE)
after_cell next s x h =
    by_test (ltb s (length next))
    (λ t. let in_list = ltb-true s (length next) t in (in_list, sym (get_or_from_slice_get next s x NONE (sym h))))
    (λ t. let none = h ∙ slice_get_past next s (ltb-false s (length next) t) in absurd (cc))

pub after_none : (next : List ℕ) (s : ℕ) → None ≡ slice_get next s → length next ≤ s
after_none next s h =
    by_test (ltb s (length next)) (λ t. let some = h ∙ slice_get-get_or next s 0 (ltb-true s (length next) t) in absurd (cc)) (λ t. ltb-false s (length next) t)

pub walk_past : (next : List ℕ) (s k : ℕ) → length next ≤ s → walk next s k ≡ []
unfolding walk
walk_past next s zero h = refl
walk_past next s (suc k) h = rw (le-ltb s (length next) h)

walk_front : (next : List ℕ) (i v k : ℕ) → i < length next → walk (set next i v) i (suc k) ≡ i ∷ walk (set next i v) v k
unfolding walk
walk_front next i v k h = rw (length-set next i v, lt-ltb i (length next) h, get_or-set_same next i v NONE h)

-- every element is above i
abbrev Over : ℕ → List ℕ → Type 0
Over i [] = Unit {0}
Over i (x ∷ xs) = (i < x) × Over i xs

from_over : (p : ℕ → Bool) (i j k : ℕ) → i < j → Over i (filterb p (from j k))
from_over p i j zero h = tt
from_over p i j (suc k) h =
    let g = from_over p i (suc j) k (omega arith) in
    by_test (p j) (λ e. rw e (h, g)) (λ e. rw e g)

-- a store at i leaves a walk that stays above i
walk_apart : (next : List ℕ) (i v s k : ℕ) → Over i (walk next s k) → walk (set next i v) s k ≡ walk next s k
unfolding walk
walk_apart next i v s zero h = refl
walk_apart next i v s (suc k) h =
    rw (length-set next i v)
    (by_test (ltb s (length next))
    (λ e.
    let b : (i < s) × Over i (walk next (get_or next s NONE) k) = rw e at h in
    rw (e, get_or-set_other next i s v NONE (λ q. omega (arith, b.0))) (ap (λ (r : List ℕ). s ∷ r) (walk_apart next i v (get_or next s NONE) k b.1)))
    (λ e. rw e))

-- ---- linking
-- of n cells those from i on are linked, in tables for so many LABs and cells
record Listed (a : List ℕ) (n labs cells : ℕ) (t : Links) (i : ℕ) : Type 0 where
  firsts : length t.first ≡ labs
  nexts : length t.next ≡ cells
  lists : (l k : ℕ) → l < labs → n - i ≤ k → walk t.next (get_or t.first l NONE) k ≡ filterb (λ j. eqb (lab_at a j) l) (from i (n - i))

none_listed : (a : List ℕ) (n labs cells : ℕ) → cells ≤ NONE → Listed a n labs cells (record { first = replicate labs NONE; next = replicate cells NONE }) n
none_listed a n labs cells h =
    let long = length-replicate cells NONE in
    let done : n - n ≡ 0 = omega arith in
    record {
      firsts = length-replicate labs NONE;
      nexts = long;
      lists = λ l k low e. rw (get_or-replicate labs l NONE NONE low, done) (walk_past (replicate cells NONE) NONE k (omega arith));
    }

module _ (a : List ℕ) (n labs cells : ℕ) (t : Links) (i : ℕ) (b : i < n) (room : n ≤ cells) (s : Listed a n labs cells t (suc i)) where
  module _ (l : ℕ) (low : l < labs) where
    rest : List ℕ
    rest = filterb (λ j. eqb (lab_at a j) l) (from (suc i) (n - suc i))

    -- the list of LAB l with the store in `next`
    kept : (v k : ℕ) → n - suc i ≤ k → walk (set t.next i v) (get_or t.first l NONE) k ≡ rest
    unfolding rest
    kept v k h =
        let old = s.lists l k low h in
        walk_apart t.next i v (get_or t.first l NONE) k (rw old (from_over (λ j. eqb (lab_at a j) l) i (suc i) (n - suc i) (omega arith))) ∙ old

    front : (k : ℕ) → suc (n - suc i) ≤ k → walk (set t.next i (get_or t.first l NONE)) i k ≡ i ∷ rest
    front zero h = absurd (omega arith)
    front (suc k) h =
        walk_front t.next i (get_or t.first l NONE) k (omega (arith, s.nexts))
        ∙ ap (λ (r : List ℕ). i ∷ r) (kept (get_or t.first l NONE) k (omega arith))

    one_list : (k : ℕ) → n - i ≤ k → walk (link a t i).next (get_or (link a t i).first l NONE) k ≡ filterb (λ j. eqb (lab_at a j) l) (from i (n - i))
    unfolding link rest
    one_list k h =
        let more : n - i ≡ suc (n - suc i) = omega arith in
        rw more
        (by_test (eqb (lab_at a i) l)
        (λ e. rw (e, eqb-true (lab_at a i) l e, get_or-set_same t.first l i NONE (rw s.firsts low)) (front k (omega arith)))
        (λ e. rw (e, get_or-set_other t.first (lab_at a i) l i NONE (λ q. eqb-false (lab_at a i) l e (sym q))) (kept (get_or t.first (lab_at a i) NONE) k (omega arith))))

  one_listed : Listed a n labs cells (link a t i) i
  unfolding link
  one_listed = record {
    firsts = length-set t.first (lab_at a i) i ∙ s.firsts;
    nexts = length-set t.next i (get_or t.first (lab_at a i) NONE) ∙ s.nexts;
    lists = λ l k low h. one_list l low k h;
  }

all_listed : (a : List ℕ) (n labs cells : ℕ) (t : Links) (i : ℕ) → i ≤ n → n ≤ cells → Listed a n labs cells t i → Listed a n labs cells (link_below a t i) 0
unfolding link_below
all_listed a n labs cells t zero h room s = s
all_listed a n labs cells t (suc i) h room s = all_listed a n labs cells (link a t i) i (omega arith) room (one_listed a n labs cells t i h room s)

-- the list of LAB l is the LAB's cells
pub walk_members : (a : List ℕ) (n l : ℕ) → n ≤ 512 → l < 1024
    → walk (link_below a (record { first = replicate 1024 65535; next = replicate 512 65535 }) n).next
    (get_or (link_below a (record { first = replicate 1024 65535; next = replicate 512 65535 }) n).first l 65535) 512 ≡ members a n l
unfolding members
walk_members a n l room low =
    let s = all_listed a n 1024 512 (record { first = replicate 1024 65535; next = replicate 512 65535 }) n (omega arith) room (none_listed a n 1024 512 (omega arith)) in
    s.lists l 512 low (omega arith) ∙ ap (λ (k : ℕ). filterb (λ j. eqb (lab_at a j) l) (from 0 k)) (sub-zero n)
