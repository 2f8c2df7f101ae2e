use native.Mathlib.Omega.{arith}
use Rattle.runs.proofs.Painting.{paint_none, paint_more, paint_all}
use Rattle.sums.specs.inner.Sums.{lowered_at}
use Rattle.sums.proofs.Cut.lower_all.Goals as goal

pub loop-i-preserved : goal.loop-i-preserved
unfolding lowered_at
loop-i-preserved c =
    paint_more c.loop-i.invariant (omega arith) c.lower.ensures

pub returns : goal.returns
returns c =
    paint_all _ c.loop-i.invariant (omega arith)

pub loop-i-init : goal.loop-i-init
loop-i-init c =
    paint_none _ _ _
