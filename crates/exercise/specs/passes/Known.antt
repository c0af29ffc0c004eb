-- What a record says that is known to keep the layout: nothing but its kind is tested. Assumes nothing.
use Rattle.std.specs.Prelude.{ℕ, cond, not, List, length, eqb}
use Rattle.exercise.specs.Exercise.{record_part}
use Rattle.exercise.specs.Record.{kind_of, combinational_of, register_of}
use Rattle.exercise.specs.declared.Record.{Record}
use Rattle.exercise.specs.declared.Record.TheVariants.{Combinational, Register, Malformed}

-- what a record says that keeps the layout: its kind tells all. Of any other record it says what nobody asks
unfoldable pub known_of : List ℕ → Record
known_of p =
    cond (not (eqb (length p) 24)) Malformed
    (cond (eqb (kind_of p) 1) (Combinational (combinational_of p)) (Register (register_of p)))

unfoldable pub known_at : List ℕ → ℕ → Record
known_at e i = known_of (record_part e i)
