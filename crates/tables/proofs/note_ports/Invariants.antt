-- The reads at the ports from here on are those that remain.
use mathlib.Core.Path.{◌≡◌}
use lib.ListN.{drop}
use Rattle.sheet.specs.Signal.{codes}
use Rattle.tables.specs.passes.Tables.{read_each}
use Rattle.tables.proofs.note_ports.Given as goal

abbrev pub invariant-loop-port : goal.invariant-loop-port
invariant-loop-port l = read_each l.initial.reads (codes l.ports) ≡ read_each l.reads (codes (drop l.port-index l.ports))
