-- Request M-106, "How many tries did the search make?", with M-107's ways: the tries of a LAB, counted over all lists of entries. Nothing here speaks
-- of a search. `t` is the entry table, `ns` are the LAB's needs. Assumes nothing.
use Rattle.std.specs.Prelude.{ℕ, zero, suc, ◌<◌, ◌≤◌, ◌≡◌, ◌⊎◌, Bool, true, false, ◌&&◌, ◌||◌, List, [], ◌∷◌, map, eqb, ltb, length, take}
use Rattle.std.proofs.Math.Option.{Option, none, some}
use Rattle.sheet.specs.Lists.{concat_map, filterb, below}
use Rattle.entries.specs.declared.Need.{Need}
use Rattle.entries.specs.Table.{Table}
use Rattle.route.specs.Way.{Way, is_way, earliest_way}

-- "first one or more needs given suitable .. entries", and M-107, "a partial way .. may repeat an entry only for the same net": a way of the first
-- one or more needs
unfoldable pub is_partial_way : Table → List Need → List ℕ → Bool
is_partial_way t ns [] = false
is_partial_way t ns (e ∷ v) = is_way t (take (length (e ∷ v)) ns) (e ∷ v)

-- v stands "at or before" w "in document 01's order, a shorter one before those that extend it"
unfoldable pub at_or_before : List ℕ → List ℕ → Bool
at_or_before [] w = true
at_or_before (a ∷ v) [] = false
at_or_before (a ∷ v) (b ∷ w) = ltb a b || (eqb a b && at_or_before v w)

-- "at or before the answer ..; all of them when there is no answer"
abbrev pub counts : Option (List ℕ) → List ℕ → Bool
counts none v = true
counts (some w) v = at_or_before v w

-- all lists of at most k entries below `size`, each once
unfoldable pub short_lists : ℕ → ℕ → List (List ℕ)
short_lists size zero = [] ∷ []
short_lists size (suc k) = [] ∷ concat_map (λ e. map (λ v. e ∷ v) (short_lists size k)) (below size)

-- of all lists with at most an entry for each need, the partial ways at or before the answer
unfoldable pub tried_ways : Table → List Need → List (List ℕ)
tried_ways t ns = filterb (λ v. is_partial_way t ns v && counts (earliest_way t ns) v) (short_lists (length t) (length ns))

-- THE TRIES: how many these are
unfoldable pub tries : Table → List Need → ℕ
tries t ns = length (tried_ways t ns)

-- ---- the same with the conditions of `Way`, and the order, as statements

pub record PartialWay (t : Table) (ns : List Need) (v : List ℕ) : Type 0 where
  pub one_or_more : 0 < length v
  pub first_needs : length v ≤ length ns
  pub is_way : Way t (take (length v) ns) v

-- the smaller entry where they first differ, or all entries of v and more
unfoldable pub Before : List ℕ → List ℕ → Type 0
Before v [] = ⊥
Before [] (b ∷ w) = Unit
Before (a ∷ v) (b ∷ w) = (a < b) ⊎ ((a ≡ b) × Before v w)

abbrev pub AtOrBefore : List ℕ → Option (List ℕ) → Type 0
AtOrBefore v none = Unit
AtOrBefore v (some w) = (v ≡ w) ⊎ Before v w

-- v is one of the lists
unfoldable pub In : List ℕ → List (List ℕ) → Type 0
In v [] = ⊥
In v (w ∷ ws) = (v ≡ w) ⊎ In v ws

-- each stands before all that follow it: so none is there twice
unfoldable pub InOrder : List (List ℕ) → Type 0
InOrder [] = Unit
InOrder (v ∷ vs) = ((w : List ℕ) → In w vs → Before v w) × InOrder vs

-- THE THEOREM: the lists that are counted are the partial ways at or before the answer, all of them, each once; with eight needs and eight
-- entries they are at most 19,173,960, M-107's limit
pub record TriesLaw : Type 0 where
  pub each : (t : Table) (ns : List Need) (v : List ℕ) → In v (tried_ways t ns) → PartialWay t ns v × AtOrBefore v (earliest_way t ns)
  pub all : (t : Table) (ns : List Need) (v : List ℕ) → PartialWay t ns v → AtOrBefore v (earliest_way t ns) → In v (tried_ways t ns)
  pub once : (t : Table) (ns : List Need) → InOrder (tried_ways t ns)
  pub most : (t : Table) (ns : List Need) → length t ≤ 8 → length ns ≤ 8 → tries t ns ≤ 19173960
