-- `residual::cut_numbers` meets its contract. Assumes nothing.
use native.Mathlib.Omega.{arith}
use lib.Pow.{pow_mono}
use Rattle.residual.specs.inner.Tables.{cut_numbers}
use Rattle.residual.proofs.cut_numbers.Goals as goal

pub returns-in_default : goal.returns-in_default
unfolding cut_numbers
returns-in_default c = rw c.in_default.ensures

pub overflow_mul-result : goal.overflow_mul-result
overflow_mul-result c =
    omega (arith, c.power-codes.ensures, pow_mono {i = c.hdr_depth-out.result} {j = 12} c.hdr_depth-out.ensures.most)

pub returns : goal.returns
unfolding cut_numbers
returns c = rw (← c.in-Some.ensures, c.in-Some.h.fits, c.power-codes.ensures, c.hdr_depth-out.ensures.is)
