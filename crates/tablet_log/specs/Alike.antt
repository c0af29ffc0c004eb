-- Two logs that differ in verdicts and logins only, and two that have the same entries in another order. Assumes nothing.
use Rattle.std.specs.Prelude.{ℕ, ◌-◌, ◌%◌, ◌<◌, ◌≡◌, Bool, false, ◌&&◌, ◌||◌, length, leb, ltb}
use mathlib.Core.List.{List, Permᴰ}
use Rattle.sheet.specs.Bytes.{byte_at}
use Rattle.tablet_log.specs.Log.{entries}

-- byte i is part of a verdict, bytes 4 and 5 of an entry, or of a login, its last four
unfoldable pub verdict_or_login : ℕ → Bool
verdict_or_login i =
    let place = (i - 7) % 14 in
    leb 7 i && (leb 4 place && ltb place 6 || leb 10 place)

pub record Alike (k l : List ℕ) : Type 0 where
  pub long : length k ≡ length l
  pub bytes : (i : ℕ) → verdict_or_login i ≡ false → byte_at k i ≡ byte_at l i

pub record Reordered (k l : List ℕ) : Type 0 where
  pub long : length k ≡ length l
  pub head : (i : ℕ) → i < 7 → byte_at k i ≡ byte_at l i
  pub order : Permᴰ (entries k) (entries l)
