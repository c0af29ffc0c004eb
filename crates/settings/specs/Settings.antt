-- M-102, the settings sheet: "`LXT`, version 1 (16 bits), entry count 0 to 8 (a byte), and for each entry a byte of role flags (1 clk, 2 ena,
-- 4 aclr, 8 sclr, 16 sload). Version 2 also has a 16-bit board number after the count; a version 1 sheet stands for board 0." `s` is the
-- sheet. Assumes nothing.
use Rattle.std.specs.Prelude.{ℕ, ◌+◌, ◌/◌, ◌%◌, Bool, cond, not, ◌||◌, List, [], ◌∷◌, map, length, replicate, eqb, ltb}
use Rattle.sheet.specs.Lists.{anyb, below}
use Rattle.sheet.specs.Bytes.{byte_at, u16_at, part_at}
use Rattle.sheet.specs.Checks.{Check, check, first_number}
use Rattle.sheet.specs.Header.{wrong_mark}
use Rattle.entries.specs.Table.{Table, ENTRIES}

abbrev pub version : List ℕ → ℕ
version s = u16_at s 3

abbrev pub entry_count : List ℕ → ℕ
entry_count s = byte_at s 5

-- "Version 2 also has a 16-bit board number after the count; a version 1 sheet stands for board 0"
abbrev pub board : List ℕ → ℕ
board s = cond (eqb (version s) 2) (u16_at s 6) 0

-- how many bytes stand before the flags in a version
abbrev pub head_of : ℕ → ℕ
head_of version = cond (eqb version 2) 8 6

abbrev pub flags_start : List ℕ → ℕ
flags_start s = head_of (version s)

-- "for each entry a byte of role flags"
abbrev pub flags : List ℕ → List ℕ
flags s = part_at s (flags_start s) (entry_count s)

-- neither 1 nor 2
abbrev pub unknown_version : ℕ → Bool
unknown_version version = not (eqb version 1 || eqb version 2)

unfoldable pub wrong_settings_length : List ℕ → Bool
wrong_settings_length s = not (eqb (length s) (flags_start s + entry_count s))

-- "a flag above the five roles": 1, 2, 4, 8 and 16 are 31 together
unfoldable pub other_flags : List ℕ → Bool
other_flags fs = anyb (λ f. ltb 31 f) fs

-- "70 under 6 bytes, 71 mark, 72 version, 73 count, 74 length, 75 a flag above the five roles"; T is code 84
abbrev pub settings_checks : List ℕ → List Check
settings_checks s =
    check 70 (ltb (length s) 6)
    ∷ check 71 (wrong_mark 84 s)
    ∷ check 72 (unknown_version (version s))
    ∷ check 73 (ltb ENTRIES (entry_count s))
    ∷ check 74 (wrong_settings_length s)
    ∷ check 75 (other_flags (flags s))
    ∷ []

-- the number of 70 to 75 that applies, or 0
unfoldable pub settings_number : List ℕ → ℕ
settings_number s = first_number (settings_checks s)

-- ---- the table on the sheet

-- whether a byte of flags has the flag 1, 2, 4, 8 or 16
abbrev pub has_flag : ℕ → ℕ → Bool
has_flag f flag = eqb (f / flag % 2) 1

-- "1 clk, 2 ena, 4 aclr, 8 sclr, 16 sload": what an entry with these flags serves, in the order of roles
abbrev pub row_of : ℕ → List Bool
row_of f = has_flag f 1 ∷ has_flag f 2 ∷ has_flag f 4 ∷ has_flag f 8 ∷ has_flag f 16 ∷ []

-- THE TABLE IN FORCE: a row for each entry
unfoldable pub table_of : List ℕ → Table
table_of s = map row_of (flags s)

-- ---- what a reader is told: zeros where the sheet is refused

-- version, board number and entry count
unfoldable pub settings_numbers : List ℕ → List ℕ
settings_numbers s = cond (eqb (settings_number s) 0) (version s ∷ board s ∷ entry_count s ∷ []) (replicate 3 0)

-- the flags of each entry, and 0 past the last
unfoldable pub settings_entries : List ℕ → List ℕ
settings_entries s = cond (eqb (settings_number s) 0) (map (byte_at (flags s)) (below ENTRIES)) (replicate ENTRIES 0)
