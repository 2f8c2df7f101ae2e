use Prim.Native.Nat.{◌*◌, ◌≤◌, ◌^◌}
use native.Mathlib.Nat.{mul-le-mul, le_of_lt}
use native.Mathlib.Omega.{arith}
use borrow.Author.Rules.{rules}
use Rattle.picture.proofs.chroma_size.Goals.{Start}
use Rattle.picture.proofs.chroma_size.Goals as goal

small : (c : Start) → c.args.columns * c.args.pairs ≤ 2 ^ 16 * 2 ^ 16
small c = mul-le-mul (le_of_lt c.ranges.columns.fits) (le_of_lt c.ranges.pairs.fits)

pub overflow_mul-result : goal.overflow_mul-result
overflow_mul-result c =
    let st : Start = search rules in
    omega (arith, small st)

pub returns : goal.returns
returns c =
    let st : Start = search rules in
    (search rules, omega (arith, small st))
