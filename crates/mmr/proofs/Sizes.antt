-- How large the terms, the parts and the sums grow. Assumes nothing.
use mathlib.Core.Path.{◌≡◌, sym, ap, ◌∙◌}
use Prim.Native.Nat.{ℕ, zero, suc, ◌+◌, ◌-◌, ◌*◌, ◌/◌, ◌^◌, ◌<◌, ◌≤◌, zero-le}
use native.Mathlib.Nat.{le_trans, le_of_eq, mul-le-mul, mul-le-mul_right, mul_comm, suc-mul, div-le_of_le-mul, div-lt_iff_lt-mul}
use native.Mathlib.Omega.{arith}
use lib.Pow.{pow-add}
use lib.IntN.{ℤ, pos, negsuc, nat_abs, ◌+ℤ◌, ◌*ℤ◌}
use lib.Signed.{shr_z}
use Rattle.words.proofs.Bounds.{add_in, mul_in}
use Rattle.mmr.specs.inner.Apart.{whole_sum, part_sum}

-- a number of k bits raised to 20
pub raised_le : (k x : ℕ) → k ≤ 20 → x ≤ 2 ^ k → x * 2 ^ (20 - k) ≤ 2 ^ 20
raised_le k x l h =
    let e : k + (20 - k) ≡ 20 = omega arith in
    le_trans (mul-le-mul_right (2 ^ (20 - k)) h) (le_of_eq (sym (pow-add 2 k (20 - k)) ∙ ap (λ (n : ℕ). 2 ^ n) e))

pub product_le : (k x y : ℕ) → x ≤ 2 ^ k → y ≤ 2 ^ k → x * y ≤ 2 ^ (2 * k)
product_le k x y h l =
    let e : k + k ≡ 2 * k = omega arith in
    le_trans (mul-le-mul h l) (le_of_eq (sym (pow-add 2 k k) ∙ ap (λ (n : ℕ). 2 ^ n) e))

pub high_le : (x y : ℕ) → x ≤ 2 ^ 20 → y ≤ 2 ^ 20 → x * y / 2 ^ 20 ≤ 2 ^ 20
high_le x y h l = div-le_of_le-mul (2 ^ 20) (mul-le-mul h l)

-- the integer part of a coefficient
pub whole_le : (z : ℤ) (m k : ℕ) → 0 < m → nat_abs z ≤ k * m → nat_abs (shr_z z m) ≤ k
whole_le (pos a) m k p h = div-le_of_le-mul m (le_trans h (le_of_eq (mul_comm k m)))
whole_le (negsuc a) m k p h = (div-lt_iff_lt-mul p).1 h

-- the sums
pub whole_sum_le : (w : ℕ → ℤ) (t : ℕ → ℕ) (m : ℕ) → ((i : ℕ) → nat_abs (w i) ≤ m) → ((i : ℕ) → t i ≤ 2 ^ 20) → (k : ℕ) → nat_abs (whole_sum w t k) ≤ k * (m * 2 ^ 20)
unfolding whole_sum
whole_sum_le w t m hw ht zero = zero-le
whole_sum_le w t m hw ht (suc k) =
    let h : nat_abs (whole_sum w t k +ℤ w k *ℤ pos (t k)) ≤ k * (m * 2 ^ 20) + m * 2 ^ 20 =
    add_in (whole_sum w t k) (w k *ℤ pos (t k)) (whole_sum_le w t m hw ht k) (mul_in (w k) (pos (t k)) (hw k) (ht k)) in
    rw suc-mul h

pub part_sum_le : (p t : ℕ → ℕ) → ((i : ℕ) → p i ≤ 2 ^ 32) → ((i : ℕ) → t i ≤ 2 ^ 20) → (k : ℕ) → part_sum p t k ≤ k * 2 ^ 52
unfolding part_sum
part_sum_le p t hp ht zero = zero-le
part_sum_le p t hp ht (suc k) =
    let h : p k * t k ≤ 2 ^ 32 * 2 ^ 20 = mul-le-mul (hp k) (ht k) in
    omega (arith, part_sum_le p t hp ht k)
