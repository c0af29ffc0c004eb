-- Where the eight route bytes of a LAB hold the entries of a way: each need's entry stands at the byte of its role and its place among the
-- needs of that role, where there is room for them all, and a byte that no need has is 255. Assumes nothing.
use Prim.Native.Nat.{ℕ, zero, suc, ◌+◌, ◌≤◌, ◌<◌}
use mathlib.Core.Path.{◌≡◌, refl, ap, ◌∙◌}
use mathlib.Core.List.{List, [], ◌∷◌}
use native.Mathlib.Nat.{not-suc-le-zero, le_of_suc-le-suc}
use native.Mathlib.Decide.{dec_lt}
use native.Mathlib.Omega.{arith}
use lib.ListN.{length, get_or, take, get_or-eq_default}
use lib.Dec.{eqb}
use borrow.Author.Tests.{eqb-true, eq-eqb}
use Rattle.sheet.proofs.Laws.{by_test}
use Rattle.entries.specs.declared.Need.{Need}
use Rattle.entries.specs.Table.{need_at}
use Rattle.route.specs.Route.{first_byte, needs_with, byte_of_need, entries_for, byte_for, eight_bytes}

-- how many bytes a role has
abbrev pub room : ℕ → ℕ
room r = get_or (2 ∷ 2 ∷ 2 ∷ 1 ∷ 1 ∷ []) r 0

-- ---- the entries of one role
entries_length : (r : ℕ) (ns : List Need) (w : List ℕ) → length w ≡ length ns → length (entries_for r ns w) ≡ needs_with r ns
entries_length r [] w q = refl
entries_length r (n ∷ ns) [] q = absurd (omega arith)
entries_length r (n ∷ ns) (e ∷ w) q =
    let h = entries_length r ns w (omega arith) in
    by_test (eqb n.role r) (λ s. rw s (ap suc h)) (λ s. rw s h)

-- need i's entry stands behind those of the needs of its role before it
entry_at : (ns : List Need) (w : List ℕ) (i : ℕ) → length w ≡ length ns → i < length ns → (r : ℕ) → (need_at ns i).role ≡ r
    → (needs_with r (take i ns) < needs_with r ns) × (byte_for ns w r (needs_with r (take i ns)) ≡ get_or w i 0)
entry_at [] w i q l r p = absurd (not-suc-le-zero l)
entry_at (n ∷ ns) [] i q l r p = absurd (omega arith)
entry_at (n ∷ ns) (e ∷ w) zero q l r p = rw (eq-eqb n.role r p) (omega arith, refl)
entry_at (n ∷ ns) (e ∷ w) (suc i) q l r p =
    let h = entry_at ns w i (omega arith) (le_of_suc-le-suc l) r p in
    by_test (eqb n.role r) (λ s. rw s (omega (arith, h.0), h.1)) (λ s. rw s h)

-- the need of role r that has j others before it
record Standing (r j : ℕ) (ns : List Need) : Type 0 where
  at : ℕ
  inside : at < length ns
  of_role : (need_at ns at).role ≡ r
  before : needs_with r (take at ns) ≡ j

standing_later : (r j k : ℕ) (n : Need) (ns : List Need) → needs_with r (n ∷ []) + j ≡ k → Standing r j ns → Standing r k (n ∷ ns)
standing_later r j k n ns q g = record {
  at = suc g.at;
  inside = omega arith;
  of_role = g.of_role;
  before = by_test (eqb n.role r) (λ s. rw s (omega (arith, rw s at q, g.before))) (λ s. rw s (omega (arith, rw s at q, g.before)));
}

standing : (r j : ℕ) (ns : List Need) → j < needs_with r ns → Standing r j ns
standing r j [] l = absurd (not-suc-le-zero l)
standing r zero (n ∷ ns) l =
    by_test (eqb n.role r) (λ s. record { at = 0; inside = omega arith; of_role = eqb-true n.role r s; before = refl })
    (λ s. standing_later r zero zero n ns (rw s) (standing r zero ns (rw s at l)))
standing r (suc j) (n ∷ ns) l =
    by_test (eqb n.role r) (λ s. standing_later r j (suc j) n ns (rw s (omega arith)) (standing r j ns (le_of_suc-le-suc (rw s at l))))
    (λ s. standing_later r (suc j) (suc j) n ns (rw s (omega arith)) (standing r (suc j) ns (rw s at l)))

-- ---- the eight bytes
role_byte : (ns : List Need) (w : List ℕ) (r j : ℕ) → j < room r → (first_byte r + j < 8) × (get_or (eight_bytes ns w) (first_byte r + j) 0 ≡ byte_for ns w r j)
unfolding eight_bytes
role_byte ns w zero zero h = (omega arith, refl)
role_byte ns w zero (suc zero) h = (omega arith, refl)
role_byte ns w zero (suc (suc j)) h = absurd (omega arith)
role_byte ns w (suc zero) zero h = (omega arith, refl)
role_byte ns w (suc zero) (suc zero) h = (omega arith, refl)
role_byte ns w (suc zero) (suc (suc j)) h = absurd (omega arith)
role_byte ns w (suc (suc zero)) zero h = (omega arith, refl)
role_byte ns w (suc (suc zero)) (suc zero) h = (omega arith, refl)
role_byte ns w (suc (suc zero)) (suc (suc j)) h = absurd (omega arith)
role_byte ns w (suc (suc (suc zero))) zero h = (omega arith, refl)
role_byte ns w (suc (suc (suc zero))) (suc j) h = absurd (omega arith)
role_byte ns w (suc (suc (suc (suc zero)))) zero h = (omega arith, refl)
role_byte ns w (suc (suc (suc (suc zero)))) (suc j) h = absurd (omega arith)
role_byte ns w (suc (suc (suc (suc (suc r))))) j h = absurd (omega arith)

module _ (ns : List Need) (w : List ℕ) (long : length w ≡ length ns) where
  pub slot_held : ((r : ℕ) → needs_with r ns ≤ room r) → (i : ℕ) → i < length ns → (byte_of_need ns i < 8) × (get_or (eight_bytes ns w) (byte_of_need ns i) 0 ≡ get_or w i 0)
  slot_held fits i l =
      let r = (need_at ns i).role in
      let entry = entry_at ns w i long l r refl in
      let byte = role_byte ns w r (needs_with r (take i ns)) (omega (arith, entry.0, fits r)) in
      (byte.0, byte.1 ∙ entry.1)

  role_free : (r j : ℕ) → ((i : ℕ) → i < length ns → byte_of_need ns i ≡ first_byte r + j → ⊥) → byte_for ns w r j ≡ 255
  role_free r j none =
      elim (dec_lt j (needs_with r ns)) [
        | yes l ↦ (let n = standing r j ns l in absurd (none n.at n.inside (rw (n.of_role, n.before))))
        | no l ↦ get_or-eq_default (entries_for r ns w) 255 (omega (arith, entries_length r ns w long))
      ]

  pub slot_free : (s : ℕ) → s < 8 → ((i : ℕ) → i < length ns → byte_of_need ns i ≡ s → ⊥) → get_or (eight_bytes ns w) s 0 ≡ 255
  unfolding eight_bytes
  slot_free zero h none = role_free 0 0 none
  slot_free (suc zero) h none = role_free 0 1 none
  slot_free (suc (suc zero)) h none = role_free 1 0 none
  slot_free (suc (suc (suc zero))) h none = role_free 1 1 none
  slot_free (suc (suc (suc (suc zero)))) h none = role_free 2 0 none
  slot_free (suc (suc (suc (suc (suc zero))))) h none = role_free 2 1 none
  slot_free (suc (suc (suc (suc (suc (suc zero)))))) h none = role_free 3 0 none
  slot_free (suc (suc (suc (suc (suc (suc (suc zero))))))) h none = role_free 4 0 none
  slot_free (suc (suc (suc (suc (suc (suc (suc (suc s)))))))) h none = absurd (omega arith)
