-- All numbers fit 16 bits. Assumes nothing.
use mathlib.Core.Path.{◌≡◌}
use Prim.Native.Nat.{ℕ, ◌-◌, ◌^◌, ◌≤◌}
use native.Mathlib.Omega.{arith}
use lib.Pow.{pow_mono}
use Rattle.residual.proofs.rounding.finish.Goals as goal

small : (out p : ℕ) → p ≡ 2 ^ (15 - out) → p ≤ 32768
small out p e = omega (arith, pow_mono {i = 15 - out} {j = 15} (omega arith))

pub overflow_cast-half : goal.overflow_cast-half
overflow_cast-half c = omega (arith, small _ _ c.power-half.ensures)
