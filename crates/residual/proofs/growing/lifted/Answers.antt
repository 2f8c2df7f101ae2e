use mathlib.Core.Path.{◌≡◌}
use Prim.Native.Nat.{◌/◌, ◌^◌, ◌≤◌}
use native.Mathlib.Nat.{le_refl, le_trans, div-le_of_le-mul}
use native.Mathlib.Omega.{arith}
use lib.Dec.{T}
use lib.IntN.{ℤ, pos, nat_abs, ◌+ℤ◌}
use lib.Pow.{pow_mono}
use lib.Signed.{non_neg}
use mir.Syntax.{w64}
use mir.Val.{of_z}
use Rattle.words.proofs.Bounds.{add_in}
use Rattle.words.proofs.Holding.{Holds, held, number, fit, add, add_asked}
use Rattle.standard.specs.Mapping.{from_zero}
use Rattle.residual.proofs.Raising.{not_negative}
use Rattle.residual.proofs.growing.lifted.Goals.{Start}
use Rattle.residual.proofs.growing.lifted.Goals as goal

-- The sum is a word that holds it, and is not below 0. Assumes nothing.
small : (c : Start) → c.args.far ≤ 2 ^ 56
small c = omega (arith, pow_mono {i = c.args.shift} {j = 27} (omega arith))

far : (c : Start) → Holds c.args.far (pos c.args.far) (2 ^ 56)
far c = number (small c) tt

dq : (c : Start) → Holds (of_z w64 c.args.dq) c.args.dq (2 ^ 56)
dq c = held c.ranges.dq (le_trans c.requires.2 (small c))

abbrev sum : Start → ℤ
sum c = c.args.dq +ℤ pos c.args.far

above : (c : Start) → T (non_neg (sum c)) × (nat_abs (sum c) ≡ from_zero (sum c))
above c = not_negative c.args.dq c.args.far c.requires.2

part : (c : Start) → nat_abs (sum c) / 2 ^ c.args.shift ≤ 2 ^ 30
part c = div-le_of_le-mul (2 ^ c.args.shift) (omega (arith, add_in c.args.dq (pos c.args.far) c.requires.2 (le_refl _)))

pub overflow_cast-x : goal.overflow_cast-x
overflow_cast-x c =
    fit (far c) tt

pub overflow_add-x : goal.overflow_add-x
overflow_add-x c =
    add_asked (dq c) (far c) tt

pub overflow_cast-x-2 : goal.overflow_cast-x-2
overflow_cast-x-2 c =
    let s = add (dq c) (far c) tt in rw s.is ((above c).0, record { fits = omega (arith, s.le) })

pub overflow_cast-result-2 : goal.overflow_cast-result-2
overflow_cast-result-2 c =
    rw (add (dq c) (far c) tt).is (record { fits = omega (arith, part c) })

pub returns : goal.returns
returns c =
    rw ((add (dq c) (far c) tt).is, (above c).1)
