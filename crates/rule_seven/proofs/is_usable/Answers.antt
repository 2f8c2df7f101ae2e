use Prim.Native.Nat.{◌+◌}
use native.Mathlib.Omega.{arith}
use borrow.Author.Tests.{lt-ltb, le-ltb}
use Rattle.plan.proofs.Counting.{none, more, ended}
use Rattle.rule_seven.proofs.Whole.{joined}
use Rattle.rule_seven.proofs.is_usable.Goals as goal

-- `rule_seven::is_usable` meets its contract: the tests so far are joined, first of places that are used, then of the others. Assumes nothing.
pub loop-p-init : goal.loop-p-init
loop-p-init c = none _

pub loop-p-preserved : goal.loop-p-preserved
loop-p-preserved c = more _ c.loop-p.invariant (rw (lt-ltb _ _ c.loop-p-test.true) c.piece_fits-fit.ensures)

pub loop-p-2-preserved : goal.loop-p-2-preserved
loop-p-2-preserved c =
    more _ c.loop-p-2.invariant (rw (le-ltb c.loop-p-2.p (c.from-used.result + 2) (omega arith)) c.piece_empty-fit.ensures)

pub returns : goal.returns
returns c =
    rw (← c.in-Some.ensures)
    (joined c.args.k _ c.args.c c.in-Some.h.fits (omega arith) c.from-used.ensures c.pivots_fit-pivots.ensures
    (ended _ (omega arith) (omega arith) c.loop-p-2.invariant) c.nlq_fits-residual.ensures)
