use native.Mathlib.Omega.{arith}
use Rattle.plan.proofs.Counting.{none, more, ended}
use Rattle.rule_seven.proofs.places.pivots_fit.Goals as goal

pub loop-i-init : goal.loop-i-init
loop-i-init c = none _

pub loop-i-preserved : goal.loop-i-preserved
loop-i-preserved c = more _ c.loop-i.invariant c.pivot_place-fit.ensures

pub returns : goal.returns
returns c = ended _ (omega arith) (omega arith) c.loop-i.invariant
