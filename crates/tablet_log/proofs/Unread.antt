-- Verdicts and logins do not matter: logs that differ in these only get the same answer, and leave the same rows and entry numbers. Assumes nothing.
use Prim.Native.Nat.{ℕ, ◌+◌, ◌-◌, ◌%◌, ◌≤◌, ◌<◌}
use mathlib.Core.Path.{◌≡◌, refl, ap}
use mathlib.Core.Bool.{false}
use mathlib.Core.List.{List, [], ◌∷◌, map}
use native.Mathlib.Omega.{arith}
use lib.ListN.{length}
use borrow.Author.Tests.{le-leb, lt-leb, le-ltb}
use Rattle.sheet.specs.Bytes.{byte_at}
use Rattle.sheet.specs.Lists.{below}
use Rattle.sheet.proofs.Lists.{any_same, filter_same}
use Rattle.sheet.specs.Header.{wrong_mark, wrong_version}
use Rattle.tablet_log.specs.Log.{entry_count, entry_start, entry_at, entries, bad_entry, bad_at}
use Rattle.tablet_log.specs.Minutes.{covers_none, empty_below, listed_of}
use Rattle.tablet_log.specs.Credited.{over_limit, wrong_length, any_bad, too_many, refusal, credited, credits_after, numbers_after}
use Rattle.tablet_log.specs.Laws.{LoginsUnread}
use Rattle.tablet_log.specs.Alike.{verdict_or_login, Alike}

map_same : {A B : Type 0} (f g : A → B) (xs : List A) → ((x : A) → f x ≡ g x) → map f xs ≡ map g xs
map_same f g [] h = refl
map_same f g (x ∷ xs) h = rw (h x, map_same f g xs h)

-- the header's bytes, and the first four and bytes 6 to 9 of an entry
header_read : (i : ℕ) → i < 7 → verdict_or_login i ≡ false
unfolding verdict_or_login
header_read i h = rw (lt-leb 7 i h)

start_read : (i p : ℕ) → entry_start i ≤ p → p < entry_start i + 4 → verdict_or_login p ≡ false
unfolding verdict_or_login
start_read i p g h =
    let place : (p - 7) % 14 < 4 = omega arith in
    rw (le-leb 7 p (omega arith), lt-leb 4 ((p - 7) % 14) place, lt-leb 10 ((p - 7) % 14) (omega arith))

middle_read : (i p : ℕ) → entry_start i + 6 ≤ p → p < entry_start i + 10 → verdict_or_login p ≡ false
unfolding verdict_or_login
middle_read i p g h =
    let least : 6 ≤ (p - 7) % 14 = omega arith in
    let most : (p - 7) % 14 < 10 = omega arith in
    rw (le-leb 7 p (omega arith), le-leb 4 ((p - 7) % 14) (omega arith), le-ltb ((p - 7) % 14) 6 least, lt-leb 10 ((p - 7) % 14) most)

-- the number of the first broken check, by the header, 85 and 86
module _ (k l : List ℕ) (long : length k ≡ length l) (head : (i : ℕ) → i < 7 → byte_at k i ≡ byte_at l i) where
  pub count_same : entry_count k ≡ entry_count l
  count_same = rw (head 5 (omega arith), head (5 + 1) (omega arith))

  pub refusal_same : any_bad k ≡ any_bad l → too_many k ≡ too_many l → (rows numbers : ℕ) → refusal k rows numbers ≡ refusal l rows numbers
  unfolding refusal wrong_mark wrong_version over_limit wrong_length
  refusal_same bad many rows numbers =
      rw (long, head 0 (omega arith), head 1 (omega arith), head 2 (omega arith), head 3 (omega arith), head (3 + 1) (omega arith), count_same, bad, many)

module _ (k l : List ℕ) (h : Alike k l) where
  head : (i : ℕ) → i < 7 → byte_at k i ≡ byte_at l i
  head i g = h.bytes i (header_read i g)

  same_entry : (i : ℕ) → entry_at k i ≡ entry_at l i
  unfolding entry_at
  same_entry i =
      let s = entry_start i in
      let first : (p : ℕ) → s ≤ p → p < s + 4 → byte_at k p ≡ byte_at l p = λ p f g. h.bytes p (start_read i p f g) in
      let then : (p : ℕ) → s + 6 ≤ p → p < s + 10 → byte_at k p ≡ byte_at l p = λ p f g. h.bytes p (middle_read i p f g) in
      rw (
        first s (omega arith) (omega arith),
        first (s + 1) (omega arith) (omega arith),
        first (s + 2) (omega arith) (omega arith),
        first (s + 2 + 1) (omega arith) (omega arith),
        then (s + 6) (omega arith) (omega arith),
        then (s + 6 + 1) (omega arith) (omega arith),
        then (s + 8) (omega arith) (omega arith),
        then (s + 8 + 1) (omega arith) (omega arith),
      )

  same_count : entry_count k ≡ entry_count l
  same_count = count_same k l h.long head

  same_entries : entries k ≡ entries l
  unfolding entries
  same_entries = rw same_count (map_same (entry_at k) (entry_at l) (below (entry_count l)) same_entry)

  same_listed : listed_of k ≡ listed_of l
  unfolding empty_below
  same_listed = rw same_count (filter_same (λ i. covers_none (entry_at k i)) (λ i. covers_none (entry_at l i)) (λ i. ap covers_none (same_entry i)) (below (entry_count l)))

  same_bad : any_bad k ≡ any_bad l
  unfolding any_bad bad_at
  same_bad = rw same_count (any_same (bad_at k) (bad_at l) (λ i. ap bad_entry (same_entry i)) (below (entry_count l)))

  same_many : too_many k ≡ too_many l
  unfolding too_many
  same_many = rw same_entries

  same_refusal : (rows numbers : ℕ) → refusal k rows numbers ≡ refusal l rows numbers
  same_refusal = refusal_same k l h.long head same_bad same_many

  same_told : (rows numbers : ℕ) → credited k rows numbers ≡ credited l rows numbers
  unfolding credited
  same_told rows numbers = rw (same_refusal rows numbers, same_entries, same_listed)

  module _ (rows : List (List ℕ)) (numbers : List ℕ) where
    same_rows : credits_after k rows numbers ≡ credits_after l rows numbers
    unfolding credits_after
    same_rows = rw (same_refusal (length rows) (length numbers), same_entries)

    same_numbers : numbers_after k rows numbers ≡ numbers_after l rows numbers
    unfolding numbers_after
    same_numbers = rw (same_refusal (length rows) (length numbers), same_listed)

pub logins_unread : LoginsUnread
logins_unread k l h rows numbers = (same_told k l h (length rows) (length numbers), (same_rows k l h rows numbers, same_numbers k l h rows numbers))
