use Rattle.plan.proofs.Counting.{none, more}
use Rattle.mapping.proofs.limits.pieces_map.Goals as goal

pub loop-q-init : goal.loop-q-init
loop-q-init c = none _

pub loop-q-preserved : goal.loop-q-preserved
loop-q-preserved c = more _ c.loop-q.invariant c.polynomial_maps-fit.ensures
