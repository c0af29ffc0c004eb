-- Request M-102, the writer of the settings sheet: version, board number and entries in, bytes out. "A writer for it keeps the version and board
-- it is given, under M-100's two laws (with 70 to 75)". Assumes nothing.
use Rattle.std.specs.Prelude.{ℕ, ◌+◌, ◌≡◌, Bool, cond, not, ◌&&◌, ◌||◌, List, [], ◌∷◌, ◌++◌, length, eqb, ltb}
use Rattle.sheet.specs.Bytes.{u16_bytes}
use Rattle.sheet.specs.Checks.{Check, check, first_number}
use Rattle.entries.specs.Table.{ENTRIES}
use Rattle.settings.specs.Settings as sheet
use Rattle.settings.specs.Settings.{head_of, flags, unknown_version, other_flags, settings_number}

-- what a settings sheet says: its version, the board's number, and each entry's role flags
pub record Board : Type 0 where
  pub version : ℕ
  pub number : ℕ
  pub entries : List ℕ

abbrev pub board : ℕ → ℕ → List ℕ → Board
board version number entries = record { version = version; number = number; entries = entries }

-- "`LXT`, version (16 bits), entry count (a byte)"; "Version 2 also has a 16-bit board number after the count"
unfoldable pub settings_head : ℕ → ℕ → ℕ → List ℕ
settings_head version number total = (76 ∷ 88 ∷ 84 ∷ []) ++ u16_bytes version ++ total ∷ cond (eqb version 2) (u16_bytes number) []

-- the sheet that says it: the head, "and for each entry a byte of role flags"
unfoldable pub settings_sheet : Board → List ℕ
settings_sheet x = settings_head x.version x.number (length x.entries) ++ x.entries

-- "72 (also a board other than 0 in version 1)"
unfoldable pub wrong_board : ℕ → ℕ → Bool
wrong_board version number = unknown_version version || eqb version 1 && not (eqb number 0)

-- "the writer's are 72 .., 73, 75, then 2". `room` is the length of the buffer
abbrev pub settings_writer_checks : Board → ℕ → List Check
settings_writer_checks x room =
    check 72 (wrong_board x.version x.number)
    ∷ check 73 (ltb ENTRIES (length x.entries))
    ∷ check 75 (other_flags x.entries)
    ∷ check 2 (ltb room (head_of x.version + length x.entries))
    ∷ []

-- the number that applies, or 0
unfoldable pub settings_refusal : Board → ℕ → ℕ
settings_refusal x room = first_number (settings_writer_checks x room)

-- what a sheet says, by the definitions of the judge and the reader
unfoldable pub board_of : List ℕ → Board
board_of s = board (sheet.version s) (sheet.board s) (flags s)

-- "with 70 to 75"
unfoldable pub SettingsPass : List ℕ → Type 0
SettingsPass s = settings_number s ≡ 0
