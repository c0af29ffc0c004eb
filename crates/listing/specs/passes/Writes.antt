-- A text written on a page, and the room it takes. Assumes nothing.
use Rattle.std.specs.Prelude.{ℕ, ◌+◌, ◌≤◌, ◌≡◌, List, length, Option, Some, None}
use Rattle.listing.specs.declared.Page.{Page}
use Rattle.listing.specs.Text.{ascii, decimal, overwrite, MOST}

-- a text of at most so many bytes ends within the longest listing
abbrev pub Fits : ℕ → ℕ → Type 0
Fits at most = at + most ≤ MOST

-- a text of at most `most` bytes was written at the place of a page, which is then past the text
pub record Writes (before : Page) (text : List ℕ) (most : ℕ) (after : Page) : Type 0 where
  pub stored : after.out.now ≡ overwrite before.out.now before.at text
  pub past : after.at ≡ before.at + length text
  pub short : after.at ≤ before.at + most
  pub same_reference : after.out.ghost_name ≡ before.out.ghost_name

-- a number, with a dash where there is none
abbrev pub number_or_dash : Option ℕ → List ℕ
number_or_dash None = ascii "-"
number_or_dash (Some n) = decimal n
