use native.Mathlib.Omega.{arith}
use lib.ListN.{length, length-set}
use borrow.Author.Tests.{lt-ltb}
use Rattle.spans.specs.inner.Spans.{put_four}
use Rattle.spans.proofs.Fours.{four_stored}
use Rattle.spans.proofs.put_four.Goals as goal

-- `spans::put_four` meets its contract: four are stored, or there are no places. Assumes nothing.
pub returns-then-part-lt4 : goal.returns-then-part-lt4
unfolding put_four
returns-then-part-lt4 c = rw (lt-ltb (length c.args.part.now) 4 c.if-part-lt4.true)

pub returns : goal.returns
returns c =
    four_stored c.args.x c.args.part.now (omega (arith, c.if-part-lt4.false))

pub bounds-part-1 : goal.bounds-part-1
bounds-part-1 c =
    rw length-set (omega arith)

pub bounds-part-2 : goal.bounds-part-2
bounds-part-2 c =
    rw (length-set, length-set) (omega arith)
