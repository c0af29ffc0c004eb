-- The route bytes: the scan for each, that the 255s past a way's end change nothing, and what `lab_route` answers. Assumes nothing.
use Prim.Native.Nat.{ℕ, suc, ◌+◌, ◌-◌, ◌<◌, ◌≤◌}
use mathlib.Core.Path.{◌≡◌, refl, sym, ap, ◌∙◌}
use mathlib.Core.Bool.{cond}
use mathlib.Core.List.{List, [], ◌∷◌, ◌++◌}
use mathlib.Core.Option.{Option, none, some}
use native.Mathlib.Numerals.{add-one}
use native.Mathlib.Omega.{arith}
use borrow.Author.Tests.{eq-eqb, ne_eqb}
use lib.Dec.{eqb}
use lib.ListN.{length, get_or, drop, replicate, length-drop}
use lib.Seq.{drop-cons}
use Rattle.std.specs.Prelude.{Some, None, min}
use Rattle.std.specs.Prelude as std
use Rattle.entries.specs.declared.Need.{Need}
use Rattle.entries.specs.Table.{Table, need_at, no_need, CLK, ENA, ACLR, SCLR, SLOAD}
use Rattle.route.specs.Way.{earliest_way}
use Rattle.route.specs.Route.{entries_for, byte_for, eight_bytes, lab_route_of, lab_route_from}
use Rattle.route.specs.passes.Partial.{routed_of}
use Rattle.route.proofs.AllWays.{earliest_some}

-- ---- the scan for need j of a role: the byte is the entry of the one that has `left` others of the role before it from need i on
unfoldable pub Passed : ℕ → List Need → List ℕ → ℕ → ℕ → ℕ → Type 0
Passed r ns w j i left = byte_for ns w r j ≡ get_or (entries_for r (drop i ns) (drop i w)) left 255

module _ (r : ℕ) (ns : List Need) (w : List ℕ) (j : ℕ) where
  pub pass_starts : Passed r ns w j 0 j
  unfolding Passed
  pass_starts = refl

  module _ (i left : ℕ) (p : Passed r ns w j i left) where
    -- there is no such need
    pub pass_ends : min (length ns) (length w) ≤ i → 255 ≡ byte_for ns w r j
    unfolding Passed
    pass_ends h = sym (p ∙ none_on (drop i ns) (drop i w) (omega (arith, length-drop i ns, length-drop i w)))
      where
        none_on : (ms : List Need) (v : List ℕ) → min (length ms) (length v) ≡ 0 → get_or (entries_for r ms v) left 255 ≡ 255
        none_on [] v q = refl
        none_on (m ∷ ms) [] q = refl
        none_on (m ∷ ms) (e ∷ v) q = absurd (omega arith)

    -- it is need i, one more is passed, or need i has another role
    module _ (h : i < min (length ns) (length w)) where
      step : entries_for r (drop i ns) (drop i w)
          ≡ cond (eqb (need_at ns i).role r) (get_or w i 0 ∷ entries_for r (drop (i + 1) ns) (drop (i + 1) w)) (entries_for r (drop (i + 1) ns) (drop (i + 1) w))
      step = rw (add-one, drop-cons ns i no_need (omega arith), drop-cons w i 0 (omega arith)) refl

      pub pass_stops : (need_at ns i).role ≡ r → left ≡ 0 → get_or w i 0 ≡ byte_for ns w r j
      unfolding Passed
      pass_stops q z = sym (p ∙ rw (step, eq-eqb _ _ q, z) refl)

      pub pass_goes : (need_at ns i).role ≡ r → (left ≡ 0 → ⊥) → Passed r ns w j (i + 1) (left - 1)
      unfolding Passed
      pass_goes q z =
          let back : left ≡ suc (left - 1) = omega arith in
          p ∙ rw (step, eq-eqb _ _ q) (ap (λ (k : ℕ). get_or (get_or w i 0 ∷ entries_for r (drop (i + 1) ns) (drop (i + 1) w)) k 255) back)

      pub pass_other : ((need_at ns i).role ≡ r → ⊥) → Passed r ns w j (i + 1) left
      unfolding Passed
      pass_other q = p ∙ rw (step, ne_eqb _ _ q) refl

pub ruleset passing = (pass_starts, pass_ends, pass_stops, pass_goes, pass_other)

-- ---- the eight bytes, each by itself
module _ (ns : List Need) (w : List ℕ) {b₀ b₁ b₂ b₃ b₄ b₅ b₆ b₇ : ℕ} where
  pub bytes_are : b₀ ≡ byte_for ns w CLK 0 → b₁ ≡ byte_for ns w CLK 1 → b₂ ≡ byte_for ns w ENA 0 → b₃ ≡ byte_for ns w ENA 1 → b₄ ≡ byte_for ns w ACLR 0
      → b₅ ≡ byte_for ns w ACLR 1 → b₆ ≡ byte_for ns w SCLR 0 → b₇ ≡ byte_for ns w SLOAD 0
      → b₀ ∷ b₁ ∷ b₂ ∷ b₃ ∷ b₄ ∷ b₅ ∷ b₆ ∷ b₇ ∷ [] ≡ eight_bytes ns w
  unfolding eight_bytes
  bytes_are p₀ p₁ p₂ p₃ p₄ p₅ p₆ p₇ = rw (p₀, p₁, p₂, p₃, p₄, p₅, p₆, p₇) refl

-- ---- the whole way
entries_pad : (r : ℕ) (ns : List Need) (w pad : List ℕ) → length w ≡ length ns → entries_for r ns (w ++ pad) ≡ entries_for r ns w
entries_pad r [] w pad h = refl
entries_pad r (n ∷ ns) [] pad h = absurd (omega arith)
entries_pad r (n ∷ ns) (e ∷ w) pad h = rw (entries_pad r ns w pad (omega arith)) refl

bytes_pad : (ns : List Need) (w pad : List ℕ) → length w ≡ length ns → eight_bytes ns (w ++ pad) ≡ eight_bytes ns w
unfolding eight_bytes
bytes_pad ns w pad h =
    rw (entries_pad 0 ns w pad h, entries_pad 1 ns w pad h, entries_pad 2 ns w pad h, entries_pad 3 ns w pad h, entries_pad 4 ns w pad h) refl

-- the answers of `lab_route`: a way, no way
lab_found : (ns : List Need) (o : Option (List ℕ)) (way : List ℕ) → ((w : List ℕ) → o ≡ some w → length w ≡ length ns) → Some way ≡ routed_of o
    → lab_route_from (Some (eight_bytes ns way)) ≡ lab_route_of ns o
unfolding lab_route_of routed_of
lab_found ns none way h q = cc
lab_found ns (some w) way h q =
    let is : way ≡ w ++ replicate (8 - length w) 255 = cc in
    rw (is, bytes_pad ns w _ (h w refl)) refl

pub lab_way : (t : Table) (ns : List Need) (found : std.Option (List ℕ)) (way : List ℕ) → found ≡ routed_of (earliest_way t ns) → found ≡ Some way
    → lab_route_from (Some (eight_bytes ns way)) ≡ lab_route_of ns (earliest_way t ns)
lab_way t ns found way q f = lab_found ns (earliest_way t ns) way (λ w p. (earliest_some t ns w p).0.as_long) (sym f ∙ q)

no_way : (ns : List Need) (o : Option (List ℕ)) → None ≡ routed_of o → lab_route_from None ≡ lab_route_of ns o
unfolding lab_route_of routed_of
no_way ns none q = refl
no_way ns (some w) q = cc

pub lab_no_way : (t : Table) (ns : List Need) (found : std.Option (List ℕ)) → found ≡ routed_of (earliest_way t ns) → found ≡ None
    → lab_route_from None ≡ lab_route_of ns (earliest_way t ns)
lab_no_way t ns found q f = no_way ns (earliest_way t ns) (sym f ∙ q)
