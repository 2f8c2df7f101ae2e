-- The square of a raised sample is its raised square: nothing is shifted out. Assumes nothing.
use mathlib.Core.Path.{◌≡◌, sym, ap, ◌∙◌}
use Prim.Native.Nat.{ℕ, ◌+◌, ◌-◌, ◌*◌, ◌/◌, ◌^◌, ◌≤◌}
use native.Mathlib.Nat.{mul_assoc, mul_left_comm, mul-div_cancel}
use native.Mathlib.Omega.{arith}
use lib.Pow.{pow-add, pow_pos}

pub square_raised : (depth s : ℕ) → depth ≤ 10 → (s * 2 ^ (20 - depth)) * (s * 2 ^ (20 - depth)) / 2 ^ 20 ≡ s * s * 2 ^ (20 - 2 * depth)
square_raised depth s h =
    let a = 2 ^ (20 - depth) in
    let e : 20 - depth + (20 - depth) ≡ 20 - 2 * depth + 20 = omega arith in
    let p : a * a ≡ 2 ^ (20 - 2 * depth) * 2 ^ 20 = sym (pow-add 2 (20 - depth) (20 - depth)) ∙ ap (λ (n : ℕ). 2 ^ n) e ∙ pow-add 2 (20 - 2 * depth) 20 in
    ap (λ (n : ℕ). n / 2 ^ 20) (mul_assoc s a (s * a) ∙ ap (λ (n : ℕ). s * n) (mul_left_comm a s a) ∙ sym (mul_assoc s s (a * a)) ∙ ap (λ (n : ℕ). s * s * n) p ∙ sym (mul_assoc (s * s) (2 ^ (20 - 2 * depth)) (2 ^ 20)))
    ∙ mul-div_cancel (s * s * 2 ^ (20 - 2 * depth)) (pow_pos 20)
