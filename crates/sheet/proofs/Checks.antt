-- The number of the first broken check of a list: where none is broken, of two lists in turn, and what is true of it. Assumes nothing.
use Prim.Native.Nat.{ℕ}
use mathlib.Core.Path.{◌≡◌, refl}
use mathlib.Core.Bool.{false, cond}
use mathlib.Core.List.{List, [], ◌∷◌, ◌++◌}
use lib.Dec.{eqb}
use borrow.Author.Tests.{eqb-false}
use Rattle.sheet.specs.Lists.{Every, anyb}
use Rattle.sheet.specs.Checks.{Check, first_number}
use Rattle.sheet.proofs.Laws.{by_test, or_parts}

abbrev pub Held : List Check → Type 0
Held ks = Every (λ k. k.broken ≡ false) ks

pub none_broken : (ks : List Check) → Held ks → first_number ks ≡ 0
none_broken [] h = refl
none_broken (k ∷ ks) h = rw h.0 (none_broken ks h.1)

-- `n`: none of the numbers is 0
pub all_held : (ks : List Check) → anyb (λ k. eqb k.number 0) ks ≡ false → first_number ks ≡ 0 → Held ks
all_held [] n h = tt
all_held (k ∷ ks) n h =
    let o = or_parts (eqb k.number 0) (anyb (λ k. eqb k.number 0) ks) n in
    by_test k.broken (λ t. absurd (eqb-false k.number 0 o.0 (rw t at h))) (λ t. (t, all_held ks o.1 (rw t at h)))

-- two lists in turn: the second is asked where no check of the first is broken
pub in_turn : (ks js : List Check) → anyb (λ k. eqb k.number 0) ks ≡ false → first_number (ks ++ js) ≡ cond (eqb (first_number ks) 0) (first_number js) (first_number ks)
in_turn [] js n = refl
in_turn (k ∷ ks) js n =
    let o = or_parts (eqb k.number 0) (anyb (λ k. eqb k.number 0) ks) n in
    by_test k.broken (λ t. rw (t, o.0)) (λ t. rw t (in_turn ks js o.1))

-- what is true of 0 and of each check's number
pub found : (P : ℕ → Type 0) → P 0 → (ks : List Check) → Every (λ k. P k.number) ks → P (first_number ks)
found P z [] h = z
found P z (k ∷ ks) h = by_test k.broken (λ b. rw b h.0) (λ b. rw b (found P z ks h.1))
