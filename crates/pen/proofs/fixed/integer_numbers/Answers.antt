use mathlib.Core.Path.{refl}
use native.Mathlib.Omega.{arith}
use Rattle.pen.proofs.fixed.integer_numbers.Goals as goal

-- `integer_numbers` meets its contract. Assumes nothing.
pub returns-then-long : goal.returns-then-long
returns-then-long c =
    (rw c.if-long.true refl, (omega arith, omega arith))

pub returns-else-long : goal.returns-else-long
returns-else-long c =
    (rw c.if-long.false refl, (omega arith, omega arith))
