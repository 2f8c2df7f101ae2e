use native.Mathlib.Omega.{arith}
use Rattle.plan.specs.Rule7.{row_fits}
use Rattle.plan.proofs.Counting.{none, more, ended}
use Rattle.plan.proofs.Testing.{back}
use Rattle.rule_seven.proofs.places.places_fit.Goals as goal

pub loop-i-init : goal.loop-i-init
loop-i-init c = none _

pub loop-i-preserved : goal.loop-i-preserved
loop-i-preserved c = more _ c.loop-i.invariant (rw (back c.coefficient_place-arg-1.given) at c.coefficient_place-fit.ensures)

pub returns : goal.returns
unfolding row_fits
returns c = ended _ (omega arith) (omega arith) c.loop-i.invariant
