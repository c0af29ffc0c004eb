-- The loop keeps the tables as they are after the cells below i; one more cell is one more step of each definition.
use mathlib.Core.Path.{◌≡◌}
use Rattle.tables.specs.passes.Tables.{reads_below, readers_below, drivers_below}
use Rattle.exercise.specs.passes.Known.{known_at}
use Rattle.tables.proofs.fill_tables.Given as goal

abbrev pub invariant-loop-i : goal.invariant-loop-i
invariant-loop-i l = record {
  counted : l.reads ≡ reads_below (known_at l.exercise) l.initial.reads l.i;
  read : l.readers ≡ readers_below (known_at l.exercise) l.initial.readers l.i;
  driven : l.drivers ≡ drivers_below (known_at l.exercise) l.initial.drivers l.i;
}
