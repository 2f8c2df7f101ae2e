use Rattle.std.proofs.Common.{arith}
use Rattle.pen.specs.inner.Putting.{from_distance}
use Rattle.pen.proofs.Putting.{number_none, number_put, four_bytes}
use Rattle.pen.proofs.fixed.number.Goals.{then-out-w-via-then-out-w, then-out-w-via-else-out-w+then-out-w-2}
use Rattle.pen.proofs.fixed.number.Goals as goal

-- `number` meets its contract. Assumes nothing.
pub returns-then-out-w : goal.returns-then-out-w
returns-then-out-w c =
    number_none _ c.args.at c.args.long c.args.d _ (omega arith) c.integer_bytes-w.ensures.0
    (elim c.then-out-w.branch [ then-out-w-via-then-out-w w ↦ omega arith | then-out-w-via-else-out-w+then-out-w-2 w ↦ omega arith ])

pub returns : goal.returns
returns c =
    rw (c.put.ensures, c.put_integer.ensures)
    (number_put _ c.args.at c.args.long c.args.d (from_distance c.args.z.below c.args.z.far) (omega arith) c.integer_bytes-w.ensures.0 (omega arith) c.integer.ensures.value c.fraction.ensures
    (rw c.to_be_bytes.ensures (four_bytes c.fraction.result (omega arith))))
