-- the tests so far are joined
use mathlib.Core.Path.{◌≡◌}
use lib.Dec.{ltb}
use Rattle.runs.specs.inner.Loops.{at}
use Rattle.plan.specs.Rule7.{every}
use Rattle.mapping.proofs.limits.preds_fit.Given as goal

abbrev pub invariant-loop-pred : goal.invariant-loop-pred
invariant-loop-pred l = l.fit ≡ every l.pred-index (λ j. ltb (at l.preds j) l.codes)
