-- The search gives the first of all the lists that it may give. What it may give is a parameter, as it is of the search. Assumes nothing.
use Prim.Native.Nat.{ℕ, zero, suc, ◌+◌, ◌<◌, ◌≤◌}
use mathlib.Core.Path.{◌≡◌, refl, sym, ◌∙◌}
use mathlib.Core.Logic.{◌⊎◌, inl, inr, ⊎_elim, ◌↔◌}
use mathlib.Core.Bool.{Bool, true, false, true≢false}
use mathlib.Core.List.{List, [], ◌∷◌}
use mathlib.Core.Option.{Option, none, some}
use native.Mathlib.Nat.{eq-or-lt_of_le, zero-add}
use native.Mathlib.Omega.{arith}
use Rattle.route.specs.Way.{Earlier}
use Rattle.route.specs.passes.Search.{attempt, pick, search_from}

-- the first of all the lists that P holds of: none where there is no such list, else one that is earlier than every other
unfoldable pub First : (List ℕ → Type 0) → Option (List ℕ) → Type 0
First P none = (w : List ℕ) → P w → ⊥
First P (some w) = P w × ((v : List ℕ) → P v → (v ≡ w) ⊎ Earlier w v)

-- the lists that the search may give: each entry in turn is below size and ok
abbrev pub Given : {S N : Type 0} → (S → N → ℕ → Bool) → (S → N → ℕ → S) → ℕ → S → List N → List ℕ → Type 0
Given ok next size s [] [] = Unit
Given ok next size s [] (e ∷ w) = ⊥
Given ok next size s (n ∷ ns) [] = ⊥
Given ok next size s (n ∷ ns) (e ∷ w) = (e < size) × (ok s n e ≡ true) × Given ok next size (next s n e) ns w

-- ---- what `First` says
module _ (P : List ℕ → Type 0) where
  pub first_none : (o : Option (List ℕ)) → First P o → (o ≡ none) ↔ ((w : List ℕ) → P w → ⊥)
  unfolding First
  first_none none h = (λ q. h, λ n. refl)
  first_none (some w) h = (λ q. let z : ◌≡◌ {A = ℕ} 0 1 = cc in absurd (omega arith), λ n. absurd (n w h.0))

  pub first_some : (o : Option (List ℕ)) (w : List ℕ) → First P o → o ≡ some w → P w × ((v : List ℕ) → P v → (v ≡ w) ⊎ Earlier w v)
  unfolding First
  first_some o w h q = rw q at h

  pub first_found : (o : Option (List ℕ)) → First P o → (w : List ℕ) → P w → (v : List ℕ) × (o ≡ some v)
  unfolding First
  first_found none h w p = absurd (h w p)
  first_found (some v) h w p = (v, refl)

  -- the first of the lists of P is the first of those of Q, where these are the same lists
  pub first_same : (Q : List ℕ → Type 0) → ((w : List ℕ) → P w → Q w) → ((w : List ℕ) → Q w → P w) → (o : Option (List ℕ)) → First P o → First Q o
  unfolding First
  first_same Q f g none h = λ w q. h w (g w q)
  first_same Q f g (some w) h = (f w h.0, λ v q. h.1 v (g v q))

-- ---- `pick` finds the first of the lists that begin with an entry from lo up to hi that is ok, and go on as R says
abbrev pub Begun : (ℕ → Bool) → (ℕ → List ℕ → Type 0) → ℕ → ℕ → List ℕ → Type 0
Begun ok R lo hi [] = ⊥
Begun ok R lo hi (e ∷ w) = (lo ≤ e) × (e < hi) × (ok e ≡ true) × R e w

module _ (ok : ℕ → Bool) (R : ℕ → List ℕ → Type 0) (e hi : ℕ) where
  -- where none begins with e, the first is among those that begin later
  skip : ((w : List ℕ) → ok e ≡ true → R e w → ⊥) → (other : Option (List ℕ)) → First (Begun ok R (suc e) hi) other → First (Begun ok R e hi) other
  skip never = first_same (Begun ok R (suc e) hi) (Begun ok R e hi) widen narrow
    where
      widen : (v : List ℕ) → Begun ok R (suc e) hi v → Begun ok R e hi v
      widen [] b = b
      widen (x ∷ w) b = (omega arith, b.1, b.2, b.3)

      narrow : (v : List ℕ) → Begun ok R e hi v → Begun ok R (suc e) hi v
      narrow [] b = b
      narrow (x ∷ w) b = (⊎_elim (λ q. absurd (never w (rw q b.2) (rw q b.3))) (λ l. l) (eq-or-lt_of_le b.0), b.1, b.2, b.3)

  tried : (b : Bool) → ok e ≡ b → e < hi → (found other : Option (List ℕ)) → First (R e) found → First (Begun ok R (suc e) hi) other
      → First (Begun ok R e hi) (attempt b found e other)
  unfolding First Earlier
  tried false q l found other h k = skip (λ w p r. true≢false (sym p ∙ q)) other k
  tried true q l none other h k = skip (λ w p r. h w r) other k
  tried true q l (some w) other h k = ((omega arith, l, q, h.0), least)
    where
      least : (v : List ℕ) → Begun ok R e hi v → (v ≡ e ∷ w) ⊎ Earlier (e ∷ w) v
      least [] b = absurd b
      least (x ∷ v) b =
          ⊎_elim (λ p. ⊎_elim (λ s. inl (cc)) (λ s. inr (inr (p, s))) (h.1 v (rw p b.3)))
          (λ p. inr (inl p))
          (eq-or-lt_of_le b.0)

pub pick_first : (ok : ℕ → Bool) (rest : ℕ → Option (List ℕ)) (R : ℕ → List ℕ → Type 0) → ((e : ℕ) → First (R e) (rest e)) → (k e hi : ℕ) → e + k ≡ hi
    → First (Begun ok R e hi) (pick ok rest k e)
unfolding pick First
pick_first ok rest R h zero e hi q = none_left
  where
    none_left : (v : List ℕ) → Begun ok R e hi v → ⊥
    none_left [] b = b
    none_left (x ∷ w) b = let l = b.0 in let m = b.1 in omega arith
pick_first ok rest R h (suc k) e hi q =
    tried ok R e hi (ok e) refl (omega arith) (rest e) (pick ok rest k (suc e)) (h e) (pick_first ok rest R h k (suc e) hi (omega arith))

-- ---- the law
module _ {S N : Type 0} (ok : S → N → ℕ → Bool) (next : S → N → ℕ → S) (size : ℕ) where
  pub search_first : (s : S) (ns : List N) → First (Given ok next size s ns) (search_from ok next size s ns)
  unfolding search_from First
  search_first s [] = (tt, empty)
    where
      empty : (v : List ℕ) → Given ok next size s [] v → (v ≡ []) ⊎ Earlier [] v
      empty [] b = inl refl
      empty (x ∷ v) b = absurd b
  search_first s (n ∷ ns) =
      first_same (Begun (ok s n) R 0 size) (Given ok next size s (n ∷ ns)) there back (search_from ok next size s (n ∷ ns))
      (pick_first (ok s n) (λ e. search_from ok next size (next s n e) ns) R (λ e. search_first (next s n e) ns) size 0 size (zero-add size))
    where
      R : ℕ → List ℕ → Type 0
      R e = Given ok next size (next s n e) ns

      there : (v : List ℕ) → Begun (ok s n) R 0 size v → Given ok next size s (n ∷ ns) v
      there [] b = absurd b
      there (x ∷ v) b = (b.1, b.2, b.3)

      back : (v : List ℕ) → Given ok next size s (n ∷ ns) v → Begun (ok s n) R 0 size v
      back [] b = absurd b
      back (x ∷ v) b = (omega arith, b.0, b.1, b.2)
