use Prim.Native.Nat.{◌+◌}
use native.Mathlib.Omega.{arith}
use Rattle.rules.proofs.Large.{within, large_picture}
use Rattle.rules.proofs.samples.large_in_picture.Goals as goal

-- `rules::samples::large_in_picture` meets its contract: the row pairs of a picture are those of its planes. Assumes nothing.
-- The six runs lie within the run, so nothing that finds them wraps.
pub large_in_six-requires : goal.large_in_six-requires
large_in_six-requires c = (within _ _ c.args.e c.requires.0 _ c.planes-p.ensures, c.requires.1)

pub returns : goal.returns
returns c =
    large_picture c.args.first c.args.last c.args.e c.requires.0 (c.args.minus8 + 8) _ _ _ c.planes-p.ensures c.large_in_six.ensures

pub overflow_mul-y : goal.overflow_mul-y
overflow_mul-y c = omega (arith, within _ _ c.args.e c.requires.0 _ c.planes-p.ensures)

pub overflow_add-y : goal.overflow_add-y
overflow_add-y c = omega (arith, within _ _ c.args.e c.requires.0 _ c.planes-p.ensures)

pub overflow_mul-b : goal.overflow_mul-b
overflow_mul-b c = omega (arith, within _ _ c.args.e c.requires.0 _ c.planes-p.ensures)

pub overflow_add-b : goal.overflow_add-b
overflow_add-b c = omega (arith, within _ _ c.args.e c.requires.0 _ c.planes-p.ensures)

pub overflow_mul-r : goal.overflow_mul-r
overflow_mul-r c = omega (arith, within _ _ c.args.e c.requires.0 _ c.planes-p.ensures)

pub overflow_add-r : goal.overflow_add-r
overflow_add-r c = omega (arith, within _ _ c.args.e c.requires.0 _ c.planes-p.ensures)

pub overflow_mul-p : goal.overflow_mul-p
overflow_mul-p c = omega (arith, within _ _ c.args.e c.requires.0 _ c.planes-p.ensures)
