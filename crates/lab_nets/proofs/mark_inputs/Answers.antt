-- The nets of one signal are its net, or none.
use Rattle.std.proofs.Common.{arith, ◌∙◌}
use Rattle.lab_nets.proofs.Ports.{net_marked, none_marked, all_marked}
use Rattle.lab_nets.proofs.mark_inputs.Goals as goal
use Rattle.lab_nets.proofs.mark_inputs.Goals.{then-is_net, else-is_net}

pub loop-signal-preserved : goal.loop-signal-preserved
loop-signal-preserved g c =
    elim c.if-is_net.branch [
      | then-is_net w ↦ rw (w.marks-is, w.count-is)
          (net_marked _ _ _ _ _ c.loop-signal.invariant _ (omega arith) c.is_net.ensures w.if-is_net.true (w.from.ensures ∙ w.net.ensures) w.mark_read-count.ensures)
      | else-is_net w ↦ rw (w.marks-is, w.count-is)
          (none_marked _ _ _ _ _ c.loop-signal.invariant _ (omega arith) c.is_net.ensures w.if-is_net.false)
    ]

pub returns : goal.returns
returns g c = all_marked _ _ _ _ _ c.loop-signal.invariant (omega arith)
