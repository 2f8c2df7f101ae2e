use native.Mathlib.Omega.{arith}
use Rattle.spans.proofs.InStep.{none_of_each, more_of_each}
use Rattle.spans.proofs.apart.look_up_four_stretches.Goals as goal

pub loop-t-preserved : goal.loop-t-preserved
loop-t-preserved c =
    more_of_each _ _ _ _ _ _ _ 32 _ _ _ c.loop-t.invariant c.line_of_each.ensures (omega arith)

pub loop-t-init : goal.loop-t-init
loop-t-init c =
    none_of_each _ _ _ _ _ _
