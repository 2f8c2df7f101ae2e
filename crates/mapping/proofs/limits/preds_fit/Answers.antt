use mathlib.Core.Path.{refl}
use Rattle.plan.proofs.Counting.{none, more}
use Rattle.mapping.proofs.limits.preds_fit.Goals as goal

pub loop-pred-init : goal.loop-pred-init
loop-pred-init c = none _

pub loop-pred-preserved : goal.loop-pred-preserved
loop-pred-preserved c = more _ c.loop-pred.invariant (rw c.from.ensures refl)
