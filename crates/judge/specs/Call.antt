-- What a judgement is given. Assumes nothing.
use Rattle.std.specs.Prelude.{ℕ, List}
use Rattle.entries.specs.Table.{Table}
use Rattle.settings.specs.Settings.{table_of}

-- "an exercise sheet .., an answer sheet .. and a lent route buffer", the settings sheet of M-102 and the "lent list of 1,024 numbers" of M-106
pub record Call : Type 0 where
  pub settings : List ℕ
  pub exercise : List ℕ
  pub answer : List ℕ
  -- the route buffer's length
  pub room : ℕ
  -- the length of the list of tries
  pub slots : ℕ

abbrev pub call : List ℕ → List ℕ → List ℕ → ℕ → ℕ → Call
call s e a r n = record { settings = s; exercise = e; answer = a; room = r; slots = n }

-- M-102: "Every judgement then takes the table in force"
abbrev pub in_force : Call → Table
in_force c = table_of c.settings
