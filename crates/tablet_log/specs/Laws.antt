-- Request M-105: what is true of the minutes of every log. Assumes nothing.
use Rattle.std.specs.Prelude.{ℕ, ◌≤◌, ◌≡◌, List, length, take}
use Rattle.tablet_log.specs.Log.{entries}
use Rattle.tablet_log.specs.Minutes.{credit}
use Rattle.tablet_log.specs.Credited.{refusal, credited, credits_after, numbers_after}
use Rattle.tablet_log.specs.Pairs.{all_pairs, distinct_pairs, credits_of}
use Rattle.tablet_log.specs.Alike.{Alike, Reordered}

-- "The credits add up to the number of distinct (apprentice, minute) pairs in the log": those of the rows that the call says are filled
abbrev pub CreditsAddUp : Type 0
CreditsAddUp =
    (l : List ℕ) (rows : List (List ℕ)) (numbers : List ℕ) → refusal l (length rows) (length numbers) ≡ 0
    → credits_of (take (credited l (length rows) (length numbers)).rows (credits_after l rows numbers)) ≡ distinct_pairs (all_pairs (entries l))

-- changing only logins or verdicts changes nothing
abbrev pub LoginsUnread : Type 0
LoginsUnread =
    (k l : List ℕ) → Alike k l → (rows : List (List ℕ)) (numbers : List ℕ)
    → (credited k (length rows) (length numbers) ≡ credited l (length rows) (length numbers)) × ((credits_after k rows numbers ≡ credits_after l rows numbers) × (numbers_after k rows numbers ≡ numbers_after l rows numbers))

-- the order of the entries changes no credit, and neither the number nor how many are filled
abbrev pub AnyOrder : Type 0
AnyOrder =
    (k l : List ℕ) → Reordered k l → (rows : List (List ℕ)) (numbers : List ℕ)
    → (credited k (length rows) (length numbers) ≡ credited l (length rows) (length numbers)) × (credits_after k rows numbers ≡ credits_after l rows numbers)

-- nobody has more minutes than a week has
abbrev pub AtMostAWeek : Type 0
AtMostAWeek = (l : List ℕ) (rows numbers : ℕ) → refusal l rows numbers ≡ 0 → (a : ℕ) → credit (entries l) a ≤ 10080
