use borrow.Author.Rules.{rules}
use mathlib.Core.Path.{◌≡◌, ap, ◌∙◌}
use Prim.Native.Nat.{◌+◌, ◌-◌, ◌/◌, ◌^◌, ◌≤◌}
use native.Mathlib.Omega.{arith}
use lib.IntN.{ℤ, pos, ◌+ℤ◌}
use lib.Pow.{pow-add, pow_mono, shr_mono}
use mir.Facts.{to_z-of_z}
use Rattle.standard.specs.Mapping.{from_zero}
use Rattle.residual.specs.inner.Steps.{far_of}
use Rattle.residual.proofs.Dividing.{raised-after, low_ge, high_le}
use Rattle.residual.proofs.growing.raised_by.Goals.{After-power, After-power-far}
use Rattle.residual.proofs.growing.raised_by.Goals as goal

-- `residual::growing::raised_by` meets its contract: every number on the way fits. Assumes nothing.
far_is : (c : After-power-far) → c.power-far.result ≡ far_of c.args.shift
far_is c = c.power-far.ensures ∙ pow-add 2 29 c.args.shift

-- the power is at most 2 ^ 56, and the limit not above it
small : (c : After-power-far) → (c.power-far.result ≤ 2 ^ 56) × (c.args.most ≤ c.power-far.result)
small c = (omega (arith, far_is c, pow_mono {i = c.args.shift} {j = 27} (omega arith)), omega (arith, far_is c))

high : (c : After-power-far) → (c.power-far.result + c.args.most) / 2 ^ c.args.shift ≤ 2 ^ 30
high c = rw (far_is c) (high_le c.args.shift c.args.most c.requires.limit)

low : (c : After-power-far) → 2 ^ 29 - 2 ^ 17 ≤ (c.power-far.result - c.args.most) / 2 ^ c.args.shift
low c = rw (far_is c) (low_ge c.args.shift c.args.most c.requires.limit)

abbrev begun : After-power → After-power-far
begun c = search rules

half : (c : After-power) → c.power.result ≤ 2 ^ 15
half c = omega (arith, c.power.ensures, pow_mono {i = 15 - c.args.out} {j = 15} (omega arith))

pub returns : goal.returns
returns c =
    let b = begun c in
    let a = c.args in
    let x = ap (λ (z : ℤ). from_zero (z +ℤ pos c.power-far.result) / 2 ^ a.shift) (to_z-of_z c.ranges.dq) in
    raised-after a.shift a.most c.requires.limit a.out a.dq (far_is b) c.power.ensures (c.lifted.ensures ∙ x) (rw c.min.ensures at c.max-held.ensures)

pub overflow_add-high : goal.overflow_add-high
overflow_add-high c =
    record { fits = omega (arith, small c) }

pub overflow_sub-low : goal.overflow_sub-low
overflow_sub-low c =
    (small c).1

pub overflow_cast-low-2 : goal.overflow_cast-low-2
overflow_cast-low-2 c =
    let b : After-power-far = search rules in
    record { fits = omega (arith, high b, shr_mono {a = c.power-far.result - c.args.most} {b = c.power-far.result + c.args.most} c.args.shift (omega arith)) }

pub overflow_cast-high-2 : goal.overflow_cast-high-2
overflow_cast-high-2 c =
    let b : After-power-far = search rules in
    record { fits = omega (arith, high b) }

pub lifted-requires : goal.lifted-requires
lifted-requires c =
    (c.requires.divided, far_is c, rw (to_z-of_z c.ranges.dq, far_is c) c.requires.near)

pub overflow_cast-result : goal.overflow_cast-result
overflow_cast-result c =
    record { fits = omega (arith, half c) }

pub overflow_sub-result-2 : goal.overflow_sub-result-2
overflow_sub-result-2 c =
    omega (arith, half c)

pub overflow_sub-result-3 : goal.overflow_sub-result-3
overflow_sub-result-3 c =
    omega (arith, c.max-held.ensures, low (begun c))
