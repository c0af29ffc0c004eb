-- One number, the key, for each place of each kind: where every cell has one, the pairwise scan of rule 50 compares keys, and a pass over one mark
-- for each key tells where it has to begin. Assumes nothing.
use Rattle.std.specs.Prelude.{ℕ, zero, suc, ◌+◌, ◌*◌, ◌-◌, ◌<◌, ◌≤◌, Bool, true, false, cond, ◌&&◌, ◌||◌, ◌≡◌, Option, Some, None, List, get_or, set, eqb, ltb}
use Rattle.sheet.specs.Lists.{anyb, below}
use Rattle.placing.specs.Places.{kind_at, x_at, y_at, lab_at, le_at}

-- the number of a place of a kind; 32,768 of them are in range
unfoldable pub key : List ℕ → List ℕ → ℕ → ℕ
key e a i = 16384 * (kind_at e i - 1) + 16 * lab_at a i + le_at a i

-- a cell below 512 whose kind, x, y and LE are in range: no two places of a kind have one key then
unfoldable pub has_key : List ℕ → List ℕ → ℕ → Bool
has_key e a i =
    ltb i 512 && (eqb (kind_at e i) 1 || eqb (kind_at e i) 2) && ltb (x_at a i) 32 && ltb (y_at a i) 32 && ltb (le_at a i) 16

-- the key of a cell that has one
unfoldable pub key_of : List ℕ → List ℕ → ℕ → Option ℕ
key_of e a i = cond (has_key e a i) (Some (key e a i)) None

-- the keys of the cells below k, put into a table
unfoldable pub put_keys : List ℕ → List ℕ → List ℕ → ℕ → List ℕ
put_keys e a keys zero = keys
put_keys e a keys (suc k) = set (put_keys e a keys k) k (key e a k)

-- each of the first n cells has a key, which stands in the table
pub record KeysOf (e a keys : List ℕ) (n : ℕ) : Type 0 where
  pub has : (i : ℕ) → i < n → has_key e a i ≡ true
  pub stands : (i : ℕ) → i < n → get_or keys i 0 ≡ key e a i

-- a lower cell has the key of cell i
unfoldable pub key_taken : List ℕ → ℕ → Bool
key_taken keys i = anyb (λ j. eqb (get_or keys j 0) (get_or keys i 0)) (below i)

-- the first n keys of a table for 512 are in range
pub record Keyed (keys : List ℕ) (n : ℕ) : Type 0 where
  pub room : n ≤ 512
  pub low : (i : ℕ) → i < n → get_or keys i 0 < 32768

-- of n cells, none below i has a lower one's key
pub record FreeTo (keys : List ℕ) (n i : ℕ) : Type 0 where
  pub within : i ≤ n
  pub free : (j : ℕ) → j < i → key_taken keys j ≡ false

-- ---- the pairwise scan; `says j i b`: asked of cells j and i, the test may say b
-- no cell from `from` on, of the cells below n, clashes with a lower one
unfoldable pub Apart : (ℕ → ℕ → Bool → Type 0) → ℕ → ℕ → Type 0
Apart says from n = (i : ℕ) → from ≤ i → i < n → (j : ℕ) → j < i → says j i false

-- cell c does, and none between
pub record Clash (says : ℕ → ℕ → Bool → Type 0) (from n c : ℕ) : Type 0 where
  pub above : from ≤ c
  pub within : c < n
  pub met : (j : ℕ) × ((j < c) × says j c true)
  pub apart : Apart says from c
