use mathlib.Core.Path.{ap}
use native.Mathlib.Omega.{arith}
use lib.IntN.{nat_abs}
use Rattle.words.proofs.Holding.{sub_asked, mul}
use Rattle.mmr.proofs.Parts.{unit, part_low, coefficient, whole, part}
use Rattle.mmr.proofs.sum.part_of.Goals as goal

pub overflow_sub-result : goal.overflow_sub-result
overflow_sub-result c =
    sub_asked (coefficient c.args.d c.requires.0 c.args.c c.requires.1) (mul (whole c.args.d c.requires.0 c.args.c c.requires.1) (unit c.args.d c.requires.0) tt) tt

pub overflow_cast-result-4 : goal.overflow_cast-result-4
overflow_cast-result-4 c =
    let a = c.args in
    rw (part a.d c.requires.0 a.c c.requires.1) (tt, record { fits = omega (arith, part_low a.d c.requires.0 a.c) })

pub returns : goal.returns
returns c =
    ap nat_abs (part c.args.d c.requires.0 c.args.c c.requires.1)
