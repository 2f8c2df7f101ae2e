use Rattle.plan.proofs.Counting.{none, more, ended}
use Rattle.plan.proofs.Testing.{back}
use Rattle.mmr.specs.inner.Ready.{row_within}
use Rattle.mmr.proofs.ready.row_within.Goals as goal

pub loop-i-init : goal.loop-i-init
loop-i-init c = none _

pub loop-i-preserved : goal.loop-i-preserved
loop-i-preserved c = more _ c.loop-i.invariant (rw (back c.place_within-arg-1.given) at c.place_within-within.ensures)

pub returns : goal.returns
unfolding row_within
returns c = ended _ c.loop-i.auto.i-end c.loop-i-test.false c.loop-i.invariant
