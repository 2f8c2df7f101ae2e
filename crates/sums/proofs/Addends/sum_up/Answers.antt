use native.Mathlib.Omega.{arith}
use Rattle.runs.proofs.Painting.{paint_none, paint_more, paint_all}
use Rattle.spans.proofs.Fours.{paint_begun, paint_turn, paint_from}
use Rattle.sums.proofs.Addends.sum_up.Goals as goal

pub loop-t-preserved : goal.loop-t-preserved
loop-t-preserved c =
    paint_turn _ c.loop-t.invariant (omega arith) (omega arith) c.sum_four.ensures

pub loop-i-preserved : goal.loop-i-preserved
loop-i-preserved c =
    paint_more c.loop-i.invariant (omega arith) c.summed.ensures

pub returns : goal.returns
returns c =
    paint_all _ (paint_from c.loop-t.invariant (omega arith) c.loop-i.invariant) (omega arith)

pub loop-t-init : goal.loop-t-init
loop-t-init c =
    paint_begun _ _ _ _ (omega arith)

pub loop-i-init : goal.loop-i-init
loop-i-init c =
    paint_none _ _ _
