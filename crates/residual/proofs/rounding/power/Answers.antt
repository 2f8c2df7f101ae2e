use mathlib.Core.Path.{◌∙◌}
use Prim.Native.Nat.{◌^◌}
use native.Mathlib.Nat.{one-mul}
use native.Mathlib.Omega.{arith}
use lib.Pow.{shl_exact}
use Rattle.residual.proofs.rounding.power.Goals as goal

pub returns : goal.returns
returns c =
    shl_exact {a = 1} 1 c.args.k 64 (omega arith) (omega arith) ∙ one-mul (2 ^ c.args.k)
