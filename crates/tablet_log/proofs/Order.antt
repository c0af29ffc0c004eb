-- The order of the entries does not matter: entries in another order have the same apprentices with the same credits, and as many of them cover nothing. Assumes nothing.
use Prim.Native.Nat.{ℕ}
use mathlib.Core.Path.{◌≡◌, refl, sym, ap, ◌∙◌}
use mathlib.Core.Bool.{Bool, cond}
use mathlib.Core.List.{List, [], ◌∷◌, map, Permᴰ}
use lib.ListN.{length}
use lib.Dec.{ltb}
use Rattle.sheet.specs.Lists.{anyb, filterb, concat_map, below}
use Rattle.sheet.proofs.Laws.{by_test}
use Rattle.sheet.proofs.Lists.{count_map}
use Rattle.sheet.proofs.Order.{test_order, count_order}
use Rattle.distinct.proofs.Order.{rising_brought}
use Rattle.tablet_log.specs.declared.Entry.{Entry}
use Rattle.tablet_log.specs.Log.{entry_count, entry_at, entries, bad_entry, bad_at}
use Rattle.tablet_log.specs.Minutes.{minutes_of, is_own, own_minutes, credit, apprentices, row_of, rows_of, covers_none, empty_below, listed_of}
use Rattle.tablet_log.specs.Credited.{any_bad, too_many, refusal, credited, credits_after}
use Rattle.tablet_log.specs.Alike.{Reordered}
use Rattle.tablet_log.specs.Laws.{AnyOrder}
use Rattle.tablet_log.proofs.Unread.{refusal_same}

-- an entry's apprentice, and its minutes where it is a's own
abbrev whom : Entry → List ℕ
whom e = e.apprentice ∷ []

mine : ℕ → Entry → List ℕ
mine a e = cond (is_own a e) (minutes_of e) []

all_whom : (es : List Entry) → concat_map whom es ≡ map (λ e. e.apprentice) es
all_whom [] = refl
all_whom (e ∷ es) = rw (all_whom es)

all_mine : (a : ℕ) (es : List Entry) → concat_map (mine a) es ≡ own_minutes es a
unfolding mine
all_mine a [] = refl
all_mine a (e ∷ es) = by_test (is_own a e) (λ t. rw (t, all_mine a es)) (λ t. rw (t, all_mine a es))

module _ {es fs : List Entry} (d : Permᴰ es fs) where
  pub order_apprentices : apprentices es ≡ apprentices fs
  unfolding apprentices
  order_apprentices = rw (← all_whom es, ← all_whom fs) (rising_brought whom es fs d)

  pub order_credit : (a : ℕ) → credit es a ≡ credit fs a
  unfolding credit
  order_credit a = rw (← all_mine a es, ← all_mine a fs) (ap length (rising_brought (mine a) es fs d))

  pub order_rows : rows_of es ≡ rows_of fs
  unfolding rows_of
  order_rows = rw order_apprentices (each (apprentices fs))
    where
      each : (xs : List ℕ) → map (row_of es) xs ≡ map (row_of fs) xs
      each [] = refl
      each (x ∷ xs) = rw (order_credit x, each xs)

-- ---- two logs with the same head and the same entries in another order
any-map : (p : Entry → Bool) (f : ℕ → Entry) (xs : List ℕ) → anyb (λ x. p (f x)) xs ≡ anyb p (map f xs)
any-map p f [] = refl
any-map p f (x ∷ xs) = rw (any-map p f xs)

pub bad_entries : (l : List ℕ) → any_bad l ≡ anyb bad_entry (entries l)
unfolding any_bad bad_at entries
bad_entries l = any-map bad_entry (entry_at l) (below (entry_count l))

empty_entries : (l : List ℕ) → length (listed_of l) ≡ length (filterb covers_none (entries l))
unfolding empty_below entries
empty_entries l = sym (count_map (entry_at l) covers_none (below (entry_count l)))

module _ (k l : List ℕ) (h : Reordered k l) where
  order_refusal : (rows numbers : ℕ) → refusal k rows numbers ≡ refusal l rows numbers
  unfolding too_many
  order_refusal =
      refusal_same k l h.long h.head (bad_entries k ∙ test_order bad_entry (entries k) (entries l) h.order ∙ sym (bad_entries l))
      (ap (λ (xs : List ℕ). ltb 64 (length xs)) (order_apprentices h.order))

  order_told : (rows numbers : ℕ) → credited k rows numbers ≡ credited l rows numbers
  unfolding credited
  order_told rows numbers = rw (order_refusal rows numbers, order_apprentices h.order, empty_entries k, count_order covers_none (entries k) (entries l) h.order, ← empty_entries l)

  order_credits_after : (rows : List (List ℕ)) (numbers : List ℕ) → credits_after k rows numbers ≡ credits_after l rows numbers
  unfolding credits_after
  order_credits_after rows numbers = rw (order_refusal (length rows) (length numbers), order_rows h.order)

pub any_order : AnyOrder
any_order k l h rows numbers = (order_told k l h (length rows) (length numbers), order_credits_after k l h rows numbers)
