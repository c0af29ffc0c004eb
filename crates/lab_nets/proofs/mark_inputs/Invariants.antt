use Rattle.distinct.specs.passes.Marks.{marking}
use Rattle.lab_nets.proofs.Ports.{Left}
use Rattle.lab_nets.proofs.mark_inputs.Given as goal

abbrev pub invariant-loop-signal : goal.invariant-loop-signal
invariant-loop-signal g l =
    Left l.lab (marking l.initial.marks l.initial.count) l.signal-items (marking l.marks l.count) l.signal-index
