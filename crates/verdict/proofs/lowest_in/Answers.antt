-- The loop's invariant: no cell below i stands in the LAB.
use Rattle.verdict.proofs.Steps.{lowest_steps}
use Rattle.verdict.proofs.lowest_in.Goals as goal

pub loop-i-init : goal.loop-i-init
loop-i-init c =
    search lowest_steps

pub loop-i-preserved : goal.loop-i-preserved
loop-i-preserved c =
    search lowest_steps
