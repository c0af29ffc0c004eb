-- What the headers of all sheets share: three letters, then a version. Assumes nothing.
use Rattle.std.specs.Prelude.{ℕ, Bool, not, ◌&&◌, List, eqb}
use Rattle.sheet.specs.Bytes.{byte_at, u16_at}

-- a sheet does not begin with the letters L, X and a third: E, code 69, of an exercise, A, code 65, of an answer, T, code 84, of settings, C, code 67, of a
-- class, L, code 76, of a tablet's log
unfoldable pub wrong_mark : ℕ → List ℕ → Bool
wrong_mark third s = not (eqb (byte_at s 0) 76 && eqb (byte_at s 1) 88 && eqb (byte_at s 2) third)

unfoldable pub wrong_version : List ℕ → Bool
wrong_version s = not (eqb (u16_at s 3) 1)
