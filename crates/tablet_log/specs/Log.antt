-- Request M-105, "Minutes from the tablet log": the log, "`LXL`, version 1 and count (16 bits each, at most 1,024), then 14 bytes an entry". `l` is the log. Total:
-- a byte past the end reads as 0. Assumes nothing.
use Rattle.std.specs.Prelude.{ℕ, ◌+◌, ◌*◌, Bool, ◌||◌, List, map, eqb, ltb}
use Rattle.sheet.specs.Bytes.{u16_at, u32_at}
use Rattle.sheet.specs.Lists.{below}
use Rattle.tablet_log.specs.declared.Entry.{Entry}

abbrev pub entry_count : List ℕ → ℕ
entry_count l = u16_at l 5

-- where entry i begins, and where the log ends after i entries
abbrev pub entry_start : ℕ → ℕ
entry_start i = 7 + 14 * i

-- entry i: "apprentice (32), verdict, opening minute and closing minute (16 each, ..), login (32)". The verdict, at 4, and the login, at 10, are not read
unfoldable pub entry_at : List ℕ → ℕ → Entry
entry_at l i = record {
  apprentice = u32_at l (entry_start i);
  opening = u16_at l (entry_start i + 6);
  closing = u16_at l (entry_start i + 8);
}

-- the entries, in order
unfoldable pub entries : List ℕ → List Entry
entries l = map (entry_at l) (below (entry_count l))

-- 85: "minute above 10,080 or apprentice 0"
unfoldable pub bad_entry : Entry → Bool
bad_entry e = ltb 10080 e.opening || ltb 10080 e.closing || eqb e.apprentice 0

unfoldable pub bad_at : List ℕ → ℕ → Bool
bad_at l i = bad_entry (entry_at l i)
