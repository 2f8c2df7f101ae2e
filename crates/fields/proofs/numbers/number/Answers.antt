use native.Mathlib.Omega.{arith}
use Rattle.fields.proofs.Digits.{more, ended, power_top}
use Rattle.fields.proofs.numbers.number.Goals as goal

pub overflow_mul-v : goal.overflow_mul-v
overflow_mul-v c = omega (arith, power_top {i = c.loop-b.b-index} (omega arith))

pub overflow_add-v : goal.overflow_add-v
overflow_add-v c = omega (arith, power_top {i = c.loop-b.b-index} (omega arith))

pub loop-b-preserved : goal.loop-b-preserved
loop-b-preserved c = more c.loop-b-test.true c.from.ensures c.loop-b.invariant (omega (arith, c.type_inv.bytes c.loop-b.b-index))

pub returns : goal.returns
returns c = ended (omega arith) c.loop-b.invariant
