-- M-102: "the board of document 01 is supplied as one of version 1". Assumes nothing.
use Rattle.std.specs.Prelude.{ℕ, ◌≡◌, List, [], ◌∷◌}
use Rattle.entries.specs.Table.{house_board}
use Rattle.settings.specs.Settings.{version, settings_number, table_of}

-- L X T, version 1, six entries: clk; clk and aclr; clk and ena; ena and sload; aclr and sclr; sclr and sload
unfoldable pub house_settings : List ℕ
house_settings = 76 ∷ 88 ∷ 84 ∷ 1 ∷ 0 ∷ 6 ∷ 1 ∷ 5 ∷ 3 ∷ 18 ∷ 12 ∷ 24 ∷ []

-- it is a settings sheet of version 1, and the table on it is document 01's
pub record House : Type 0 where
  pub passes : settings_number house_settings ≡ 0
  pub of_version_1 : version house_settings ≡ 1
  pub holds_board : table_of house_settings ≡ house_board
