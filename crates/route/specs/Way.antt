-- Document 01, "Control entries", with request M-107, "One net, one entry": what a way is, which of two ways comes first, and all ways of a list of
-- needs. Nothing here speaks of a search. Assumes nothing.
use Rattle.std.specs.Prelude.{ℕ, zero, suc, ◌<◌, ◌≡◌, ◌⊎◌, ◌↔◌, Bool, true, false, not, ◌&&◌, ◌||◌, List, [], ◌∷◌, map, length, get_or, eqb}
use Rattle.std.proofs.Math.Option.{Option, none, some}
use Rattle.sheet.specs.Lists.{concat_map, filterb, below}
use Rattle.entries.specs.declared.Need.{Need}
use Rattle.entries.specs.Table.{Table, serves, need_at, need_net}

-- "A way gives each need .. [an] entry that serves the role": `w` has an entry for each need of `ns`, in their order. M-107 in place of "its own":
-- "Two needs of the same net may share an entry ..; needs of different nets may not"
pub record Way (t : Table) (ns : List Need) (w : List ℕ) : Type 0 where
  pub as_long : length w ≡ length ns
  pub serving : (i : ℕ) → i < length ns → serves t (get_or w i 0) (need_at ns i).role ≡ true
  pub one_net : (i j : ℕ) → i < j → j < length ns → get_or w i 0 ≡ get_or w j 0 → need_net (need_at ns i) ≡ need_net (need_at ns j)

-- "Of two ways, the earlier has the smaller entry at the first need where they differ"
unfoldable pub Earlier : List ℕ → List ℕ → Type 0
Earlier [] w = ⊥
Earlier (a ∷ v) [] = ⊥
Earlier (a ∷ v) (b ∷ w) = (a < b) ⊎ ((a ≡ b) × Earlier v w)

-- ---- all ways, each tested by itself

-- whether n may have entry e where m has x: another entry, or the same net
abbrev pub fits : Need → ℕ → Need → ℕ → Bool
fits n e m x = not (eqb e x) || eqb (need_net n) (need_net m)

-- whether n may have entry e beside all later needs and their entries
abbrev pub fits_all : Need → ℕ → List Need → List ℕ → Bool
fits_all n e [] w = true
fits_all n e (m ∷ ns) [] = true
fits_all n e (m ∷ ns) (x ∷ w) = let rest = fits_all n e ns w in fits n e m x && rest

-- whether a list of entries is a way: each entry serves its need's role and is given to no later need of another net
unfoldable pub is_way : Table → List Need → List ℕ → Bool
is_way t [] [] = true
is_way t [] (e ∷ w) = false
is_way t (n ∷ ns) [] = false
is_way t (n ∷ ns) (e ∷ w) = serves t e n.role && fits_all n e ns w && is_way t ns w

-- all lists of k entries below `size`; one with a smaller entry where two first differ stands before the other
unfoldable pub entry_lists : ℕ → ℕ → List (List ℕ)
entry_lists size zero = [] ∷ []
entry_lists size (suc k) = concat_map (λ e. map (λ w. e ∷ w) (entry_lists size k)) (below size)

-- ALL WAYS, EARLIEST FIRST: of all lists with an entry for each need, those that are ways
unfoldable pub ways : Table → List Need → List (List ℕ)
ways t ns = filterb (is_way t ns) (entry_lists (length t) (length ns))

module _ {A : Type 0} where
  -- the first of a list, or none where it is empty
  abbrev pub first_of : List A → Option A
  first_of [] = none
  first_of (x ∷ xs) = some x

-- the earliest of all ways, or none where there is no way
unfoldable pub earliest_way : Table → List Need → Option (List ℕ)
earliest_way t ns = first_of (ways t ns)

-- THE THEOREM: it is none exactly if there is no way at all; and a way that it names is a way, and earlier than every other
pub record EarliestLaw : Type 0 where
  pub none_exactly : (t : Table) (ns : List Need) → (earliest_way t ns ≡ none) ↔ ((w : List ℕ) → Way t ns w → ⊥)
  pub some_first : (t : Table) (ns : List Need) (w : List ℕ) → earliest_way t ns ≡ some w → Way t ns w × ((v : List ℕ) → Way t ns v → (v ≡ w) ⊎ Earlier w v)
