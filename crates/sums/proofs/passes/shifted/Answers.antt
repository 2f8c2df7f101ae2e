use native.Mathlib.Omega.{arith}
use Rattle.sums.proofs.Cutting.{shifted_is, shifted_less}
use Rattle.sums.proofs.passes.shifted.Goals as goal

pub overflow_cast-result : goal.overflow_cast-result
overflow_cast-result c =
    omega (arith, shifted_less c.args.shift c.args.sum)

pub returns : goal.returns
returns c =
    shifted_is c.args.shift c.args.sum
