use mathlib.Core.Path.{ap}
use Prim.Native.Nat.{ℕ, ◌+◌, ◌-◌, ◌*◌, ◌^◌, ◌≤◌}
use native.Mathlib.Nat.{le_trans, le_of_eq, mul-le-mul}
use native.Mathlib.Omega.{arith}
use lib.IntN.{pos}
use lib.Pow.{pow_mono}
use Rattle.residual.proofs.growing.most_of.Goals.{After-power}
use Rattle.residual.proofs.growing.most_of.Goals as goal

-- A product of two small numbers. Assumes nothing.
small : (c : After-power) → c.args.maximum * c.power.result ≤ 2 ^ 33 * 2 ^ 11
small c = mul-le-mul c.requires.1 (le_trans (le_of_eq c.power.ensures) (pow_mono {i = 10 - c.args.el + 1} {j = 11} (omega arith)))

pub overflow_mul-result : goal.overflow_mul-result
overflow_mul-result c =
    record { fits = omega (arith, small c) }

pub returns : goal.returns
returns c =
    ap (λ (n : ℕ). pos (c.args.maximum * n)) c.power.ensures
