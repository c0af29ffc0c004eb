-- Text as ASCII codes, numbers in decimal, and what it is to write a text into a lent buffer. Assumes nothing.
use Rattle.std.specs.Prelude.{ℕ, zero, suc, ◌+◌, ◌*◌, ◌-◌, ◌/◌, ◌%◌, cond, List, [], ◌∷◌, ◌++◌, ltb}
use Prim.Native.Char.{code}
use Prim.Native.String.{String}
use Prim.Native.String as string
use Rattle.std.proofs.lemmas.List.Edits.{sets}

-- the codes of a quoted text
abbrev pub ascii : String → List ℕ
ascii string.[] = []
ascii (string.◌∷◌ c text) = code c ∷ ascii text

-- the code of a digit: '0' is 48
abbrev pub digit : ℕ → ℕ
digit d = 48 + d

-- the decimal digits of n, the most significant first, where at most k stand before the last
unfoldable pub digits : ℕ → ℕ → List ℕ
digits zero n = digit (n % 10) ∷ []
digits (suc k) n = cond (ltb n 10) (digit n ∷ []) (digits k (n / 10) ++ digit (n % 10) ∷ [])

-- a number in decimal: at most n digits stand before its last
unfoldable pub decimal : ℕ → List ℕ
decimal n = digits n n

-- the number that digits say after those before them said m
abbrev pub value_after : ℕ → List ℕ → ℕ
value_after m [] = m
value_after m (d ∷ ds) = value_after (10 * m + (d - 48)) ds

-- the number that digits say
abbrev pub value_of : List ℕ → ℕ
value_of ds = value_after 0 ds

-- the buffer with a text stored from a place on; what lies past the buffer's end is dropped
unfoldable pub overwrite : List ℕ → ℕ → List ℕ → List ℕ
overwrite buffer at text = sets buffer at text

-- no listing is longer: 72 bytes for the verdict line and 127 for each of 1,024 LABs
abbrev pub MOST : ℕ
MOST = 72 + 127 * 1024
