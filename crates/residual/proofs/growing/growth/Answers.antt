use mathlib.Core.Path.{ap, ◌∙◌}
use Prim.Native.Nat.{ℕ, ◌-◌, ◌^◌}
use native.Mathlib.Omega.{arith}
use lib.IntN.{pos, ◌*ℤ◌}
use Rattle.words.proofs.Holding.{Holds, number, literal, fit, mul, mul_asked}
use Rattle.residual.proofs.Words.{as_power}
use Rattle.residual.proofs.growing.growth.Goals.{After-power}
use Rattle.residual.proofs.growing.growth.Goals as goal

-- A product of three words that hold small numbers. Assumes nothing.
slope : (c : After-power) → Holds c.args.slope (pos c.args.slope) (2 ^ 33)
slope c = number c.requires.1 tt

f : (c : After-power) → Holds c.power.result (pos c.power.result) (2 ^ 10)
f c = as_power (10 - c.args.el) 10 (omega arith) tt c.power.ensures

pub returns : goal.returns
returns c =
    let h = mul (mul (literal 2 tt) (f c) tt) (slope c) tt in record { is = h.is ∙ ap (λ (n : ℕ). pos 2 *ℤ pos n *ℤ pos c.args.slope) c.power.ensures; low = rw h.is h.le }

pub overflow_cast-result : goal.overflow_cast-result
overflow_cast-result c =
    fit (f c) tt

pub overflow_mul-result : goal.overflow_mul-result
overflow_mul-result c =
    mul_asked (literal 2 tt) (f c) tt

pub overflow_cast-result-2 : goal.overflow_cast-result-2
overflow_cast-result-2 c =
    fit (slope c) tt

pub overflow_mul-result-2 : goal.overflow_mul-result-2
overflow_mul-result-2 c =
    mul_asked (mul (literal 2 tt) (f c) tt) (slope c) tt
