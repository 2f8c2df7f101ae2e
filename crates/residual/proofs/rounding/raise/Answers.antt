-- The sum is a word that holds it, and is not below 0. Assumes nothing.
use mathlib.Core.Path.{◌≡◌, ap, ◌∙◌}
use Prim.Native.Nat.{ℕ, ◌+◌, ◌-◌, ◌^◌}
use native.Mathlib.Omega.{arith}
use lib.IntN.{ℤ, pos, ◌+ℤ◌}
use mir.Syntax.{w64}
use mir.Val.{of_z, to_z}
use Rattle.words.proofs.Holding.{Holds, held, literal, fit, add, add_asked}
use Rattle.residual.proofs.Words.{as_power}
use Rattle.residual.proofs.Raising.{raised_cast, raised_less}
use Rattle.residual.proofs.rounding.raise.Goals as goal

module _ (out p : ℕ) (e : p ≡ 2 ^ (15 - out)) where
  half : Holds p (pos p) (2 ^ 15)
  half = as_power (15 - out) 15 (omega arith) tt e

  -- the sum as the standard's numbers give it
  total_is : (r : ℤ) → Holds (of_z w64 r) r (2 ^ 17) → to_z w64 (of_z w64 (to_z w64 (of_z w64 r) +ℤ to_z w64 (of_z w64 (to_z w64 131072 +ℤ to_z w64 p)))) ≡ r +ℤ pos (2 ^ 17 + 2 ^ (15 - out))
  total_is r h = (add h (add (literal 131072 tt) half tt) tt).is ∙ ap (λ (n : ℕ). r +ℤ pos (131072 + n)) e

pub overflow_cast-result-2 : goal.overflow_cast-result-2
overflow_cast-result-2 c =
    let z = raised_cast c.args.out c.args.r c.requires.1 in
    let t = total_is _ _ c.power.ensures c.args.r (held c.ranges.r c.requires.1) in
    rw t (z.0, record { fits = omega (arith, z.1, raised_less c.args.out c.args.r c.requires.1) })

pub returns : goal.returns
returns c =
    let t = total_is _ _ c.power.ensures c.args.r (held c.ranges.r c.requires.1) in
    rw t (raised_cast c.args.out c.args.r c.requires.1).1

pub overflow_cast-result : goal.overflow_cast-result
overflow_cast-result c = fit (half _ _ c.power.ensures) tt

pub overflow_add-result : goal.overflow_add-result
overflow_add-result c = add_asked (literal 131072 tt) (half _ _ c.power.ensures) tt

pub overflow_add-result-2 : goal.overflow_add-result-2
overflow_add-result-2 c = add_asked (held c.ranges.r c.requires.1) (add (literal 131072 tt) (half _ _ c.power.ensures) tt) tt
