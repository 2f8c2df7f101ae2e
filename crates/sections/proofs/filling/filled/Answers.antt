-- `filled` meets its contract: each value that was read goes into its place. Assumes nothing.
use native.Mathlib.Omega.{arith}
use Rattle.fields.proofs.Filling.{begun, more, broken, finished}
use Rattle.sections.proofs.filling.filled.Goals as goal

pub loop-i-init : goal.loop-i-init
loop-i-init g c reading is = begun g.row.M _ _

pub returns-in_err-all : goal.returns-in_err-all
returns-in_err-all g c reading is = broken _ _ (omega arith) (is _ _ _ _ c.in_err-all.ensures) (c.loop-i.invariant reading is) c.from_residual.ensures

pub loop-i-preserved : goal.loop-i-preserved
loop-i-preserved g c reading is = more (omega arith) (is _ _ _ _ c.in_ok-all.ensures) (c.loop-i.invariant reading is)

pub returns : goal.returns
returns g c reading is = finished (omega arith) (c.loop-i.invariant reading is)
