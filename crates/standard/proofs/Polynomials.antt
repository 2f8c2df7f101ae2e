-- The polynomial's sum over three coefficients, of which one that the order does not use is 0. Assumes nothing.
use mathlib.Core.Path.{◌≡◌, refl, ap, ◌∙◌}
use Prim.Native.Nat.{ℕ, zero, suc, ◌+◌, ◌-◌, ◌*◌, ◌^◌, ◌≤◌}
use native.Mathlib.Nat.{lt_irrefl, zero-mul}
use native.Mathlib.Omega.{arith}
use lib.IntN.{ℤ, pos, ◌+ℤ◌, ◌*ℤ◌, +ℤ_idr}
use Rattle.standard.specs.Mapping.{weight, poly_sum, cut, polynomial}
use Rattle.standard.proofs.Weights.{weight_zero, weight_one, weight_two}

-- the sum of the first three turns
pub three-terms : (depth s : ℕ) (coef : ℕ → ℤ) (one two : ℤ) → one ≡ pos (s * 2 ^ (20 - depth)) → two ≡ pos (s * s * 2 ^ (20 - 2 * depth)) → coef 0 *ℤ pos (2 ^ 20) +ℤ coef 1 *ℤ one +ℤ coef 2 *ℤ two ≡ poly_sum depth s coef 2
unfolding poly_sum
three-terms depth s coef one two e f = rw (e, f, weight_zero, weight_one, weight_two)

-- a third coefficient that is 0 adds nothing
idle : (depth s order : ℕ) (coef : ℕ → ℤ) → order ≤ 1 → (order ≡ 0 → coef 2 ≡ pos 0) → poly_sum depth s coef 2 ≡ poly_sum depth s coef (order + 1)
unfolding poly_sum
idle depth s zero coef h k =
    ap (λ (z : ℤ). poly_sum depth s coef 1 +ℤ z *ℤ pos (weight depth s 2)) (k refl)
    ∙ ap (λ (n : ℕ). poly_sum depth s coef 1 +ℤ pos n) (zero-mul (weight depth s 2)) ∙ +ℤ_idr (poly_sum depth s coef 1)
idle depth s (suc zero) coef h k = refl
idle depth s (suc (suc order)) coef h k = absurd (lt_irrefl 1 (omega arith))

-- so the polynomial of either order is the cut of the three terms
pub by_three_terms : (depth d order s : ℕ) (coef : ℕ → ℤ) → order ≤ 1 → (order ≡ 0 → coef 2 ≡ pos 0) → cut d (poly_sum depth s coef 2) ≡ polynomial depth d coef order s
unfolding polynomial
by_three_terms depth d order s coef h k = ap (cut d) (idle depth s order coef h k)
