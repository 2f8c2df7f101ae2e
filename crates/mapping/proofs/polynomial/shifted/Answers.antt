-- Nothing is shifted out. Assumes nothing.
use mathlib.Core.Path.{◌≡◌, ap, ◌∙◌}
use Prim.Native.Nat.{◌*◌, ◌%◌, ◌^◌}
use native.Mathlib.Nat.{mod-eq_of_lt}
use native.Mathlib.Omega.{arith}
use lib.IntN.{pos}
use mir.Syntax.{w64}
use mir.Facts.{to_z_pos}
use Rattle.mapping.proofs.polynomial.shifted.Goals.{Start}
use Rattle.mapping.proofs.polynomial.shifted.Goals as goal

exact : (c : Start) → (c.args.x * 2 ^ c.args.shift) % 2 ^ 64 ≡ c.args.x * 2 ^ c.args.shift
exact c = mod-eq_of_lt (omega arith)

pub overflow_cast-result-2 : goal.overflow_cast-result-2
overflow_cast-result-2 c = record { sfits = omega (arith, exact c) }

pub returns : goal.returns
returns c = to_z_pos w64 (omega (arith, exact c)) ∙ ap pos (exact c)
