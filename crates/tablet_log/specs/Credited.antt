-- Request M-105: the refusals, what the call says, and the lent lists at exit. `l` is the log; `rows` and `numbers` are how many rows and entry numbers are lent.
-- Assumes nothing.
use Rattle.std.specs.Prelude.{ℕ, Bool, cond, not, ◌||◌, List, [], ◌∷◌, ◌++◌, Result, Ok, Err, length, drop, eqb, ltb}
use Rattle.sheet.specs.Lists.{anyb, below}
use Rattle.sheet.specs.Header.{wrong_mark, wrong_version}
use Rattle.sheet.specs.Checks.{Check, check, first_number}
use Rattle.sheet.specs.declared.refusal.Refusal.{Refusal}
use Rattle.sheet.specs.Refusals.{number_of}
use Rattle.tablet_log.specs.declared.Filled.{Filled}
use Rattle.tablet_log.specs.Log.{entry_count, entry_start, entries, bad_at}
use Rattle.tablet_log.specs.Minutes.{apprentices, rows_of, listed_of}

-- "count (.. at most 1,024)"
unfoldable pub over_limit : List ℕ → Bool
over_limit l = ltb 1024 (entry_count l)

unfoldable pub wrong_length : List ℕ → Bool
wrong_length l = not (eqb (length l) (entry_start (entry_count l)))

-- 85: "in any entry"
unfoldable pub any_bad : List ℕ → Bool
any_bad l = anyb (bad_at l) (below (entry_count l))

-- 86: "a 65th apprentice"
unfoldable pub too_many : List ℕ → Bool
too_many l = ltb 64 (length (apprentices (entries l)))

-- "80 under 7 bytes, 81 mark, 82 version, 83 count, 84 length, 85 .., in any entry". The mark's third letter is L, code 76
abbrev pub log_checks : List ℕ → List Check
log_checks l =
    check 80 (ltb (length l) 7)
    ∷ check 81 (wrong_mark 76 l)
    ∷ check 82 (wrong_version l)
    ∷ check 83 (over_limit l)
    ∷ check 84 (wrong_length l)
    ∷ check 85 (any_bad l)
    ∷ []

-- the number of 80 to 85 that applies, or 0
unfoldable pub log_number : List ℕ → ℕ
log_number l = first_number (log_checks l)

-- "87, before all these, for lists of other lengths"; "then 86"
abbrev pub credit_checks : List ℕ → ℕ → ℕ → List Check
credit_checks l rows numbers = check 87 (not (eqb rows 64) || not (eqb numbers 1024)) ∷ (log_checks l ++ (check 86 (too_many l) ∷ []))

-- the number of 80 to 87 that applies, or 0
unfoldable pub refusal : List ℕ → ℕ → ℕ → ℕ
refusal l rows numbers = first_number (credit_checks l rows numbers)

-- what holds without a refusal, and what holds with one
module _ {A : Type 0} where
  abbrev pub unless_refused : List ℕ → ℕ → ℕ → A → A → A
  unless_refused l rows numbers x y = cond (eqb (refusal l rows numbers) 0) x y

  -- a lent list whose first places are filled with these: "the rest stay"
  abbrev pub filled_with : List A → List A → List A
  filled_with xs lent = xs ++ drop (length xs) lent

-- what the call says: 0 and how many rows and entry numbers are filled, or a refusal and twice 0
pub record Credited : Type 0 where
  pub number : ℕ
  pub rows : ℕ
  pub entries : ℕ

-- the same of a call's result
abbrev pub credited_from : Result Filled Refusal → Credited
credited_from (Ok f) = record { number = 0; rows = f.rows; entries = f.entries }
credited_from (Err r) = record { number = number_of r; rows = 0; entries = 0 }

-- "the answer says how many are filled"; after a refusal none is
unfoldable pub credited : List ℕ → ℕ → ℕ → Credited
credited l rows numbers =
    record {
      number = refusal l rows numbers;
      rows = unless_refused l rows numbers (length (apprentices (entries l))) 0;
      entries = unless_refused l rows numbers (length (listed_of l)) 0;
    }

-- THE LENT ROWS AT EXIT; after a refusal "nothing is credited then and lent memory is unchanged"
unfoldable pub credits_after : List ℕ → List (List ℕ) → List ℕ → List (List ℕ)
credits_after l rows numbers = unless_refused l (length rows) (length numbers) (filled_with (rows_of (entries l)) rows) rows

-- THE LENT ENTRY NUMBERS AT EXIT
unfoldable pub numbers_after : List ℕ → List (List ℕ) → List ℕ → List ℕ
numbers_after l rows numbers = unless_refused l (length rows) (length numbers) (filled_with (listed_of l) numbers) numbers
