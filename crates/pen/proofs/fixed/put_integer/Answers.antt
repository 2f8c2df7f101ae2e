use Rattle.std.proofs.Common.{arith}
use Rattle.pen.proofs.Putting.{one_byte, four_bytes}
use Rattle.pen.proofs.fixed.put_integer.Goals as goal

-- `put_integer` meets its contract. Assumes nothing.
pub returns-then-long : goal.returns-then-long
returns-then-long c =
    rw (c.put.ensures, c.to_be_bytes.ensures, c.if-long.true, four_bytes c.args.v (omega arith))

pub returns-else-long : goal.returns-else-long
returns-else-long c =
    rw (c.put-else-long.ensures, c.if-long.false, one_byte c.args.v)
