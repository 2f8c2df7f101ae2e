-- The weights of the coefficients: each is at most 2 ^ 20 at every depth, and what the first three are. Assumes nothing.
use mathlib.Core.Path.{◌≡◌, sym, ap, ◌∙◌}
use Prim.Native.Nat.{ℕ, zero, suc, ◌+◌, ◌-◌, ◌*◌, ◌^◌, ◌≤◌}
use native.Mathlib.Nat.{le_trans, le_of_eq, mul-le-mul, mul-le-mul_right, pow-zero, pow-suc, suc-mul, one-mul}
use native.Mathlib.Omega.{arith}
use lib.Pow.{pow_pos, pow-add}
use Rattle.standard.specs.Mapping.{weight}

power_le : (depth s i : ℕ) → s ≤ 2 ^ depth → s ^ i ≤ 2 ^ (i * depth)
power_le depth s zero h = omega (arith, pow-zero s, pow_pos (0 * depth))
power_le depth s (suc i) h = rw (pow-suc, suc-mul, pow-add) (mul-le-mul (power_le depth s i h) h)

pub weight_le : (depth s i : ℕ) → s ≤ 2 ^ depth → i * depth ≤ 20 → weight depth s i ≤ 2 ^ 20
weight_le depth s i h k =
    let e : i * depth + (20 - i * depth) ≡ 20 = omega arith in
    le_trans (mul-le-mul_right (2 ^ (20 - i * depth)) (power_le depth s i h))
    (le_of_eq (sym (pow-add 2 (i * depth) (20 - i * depth)) ∙ ap (λ (n : ℕ). 2 ^ n) e))

power_one : (s : ℕ) → s ^ 1 ≡ s
power_one s = pow-suc s 0 ∙ ap (λ (n : ℕ). n * s) (pow-zero s) ∙ one-mul s

pub weight_zero : (depth s : ℕ) → weight depth s 0 ≡ 2 ^ 20
weight_zero depth s =
    let e : 20 - 0 * depth ≡ 20 = omega arith in
    ap (λ (n : ℕ). n * 2 ^ (20 - 0 * depth)) (pow-zero s) ∙ one-mul (2 ^ (20 - 0 * depth)) ∙ ap (λ (n : ℕ). 2 ^ n) e

pub weight_one : (depth s : ℕ) → weight depth s 1 ≡ s * 2 ^ (20 - depth)
weight_one depth s = rw (power_one, one-mul)

pub weight_two : (depth s : ℕ) → weight depth s 2 ≡ s * s * 2 ^ (20 - 2 * depth)
weight_two depth s = ap (λ (n : ℕ). n * 2 ^ (20 - 2 * depth)) (pow-suc s 1 ∙ ap (λ (n : ℕ). n * s) (power_one s))
