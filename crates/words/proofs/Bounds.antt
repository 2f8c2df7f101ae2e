-- Integers bounded by their absolute values, which are natural numbers; what is within a bound fits an i64. Assumes nothing.
use mathlib.Core.Path.{◌≡◌, sym, subst}
use Prim.Native.Nat.{ℕ, ◌+◌, ◌*◌, ◌^◌, ◌<◌, ◌≤◌, suc-le-suc}
use native.Mathlib.Nat.{mul-le-mul, div-le_self}
use native.Mathlib.Omega.{arith}
use Rattle.std.proofs.lemmas.Int.{ints, unsigned_abs-mul, fits_signed_from_abs}
use lib.IntN.{ℤ, pos, negsuc, nat_abs, neg_ℤ, ◌+ℤ◌, ◌-ℤ◌, ◌*ℤ◌}
use lib.Signed.{shr_z}
use mir.Syntax.{w64}
use mir.Val.{SFits}

pub abs_neg : (z : ℤ) → nat_abs (neg_ℤ z) ≡ nat_abs z
abs_neg z = omega (arith, ints)

-- a sum, a difference, a product and a shift within bounds
pub add_in : (x y : ℤ) {a b : ℕ} → nat_abs x ≤ a → nat_abs y ≤ b → nat_abs (x +ℤ y) ≤ a + b
add_in x y h k = omega (arith, ints)

pub sub_in : (x y : ℤ) {a b : ℕ} → nat_abs x ≤ a → nat_abs y ≤ b → nat_abs (x -ℤ y) ≤ a + b
sub_in x y h k = omega (arith, ints)

pub mul_in : (x y : ℤ) {a b : ℕ} → nat_abs x ≤ a → nat_abs y ≤ b → nat_abs (x *ℤ y) ≤ a * b
mul_in x y {a} {b} h k = subst (λ (n : ℕ). n ≤ a * b) (sym (unsigned_abs-mul x y)) (mul-le-mul h k)

pub shr_in : (x : ℤ) (n : ℕ) → nat_abs (shr_z x n) ≤ nat_abs x
shr_in (pos a) n = div-le_self a n
shr_in (negsuc a) n = suc-le-suc (div-le_self a n)

-- what is within a bound below 2 ^ 63 fits an i64
pub fits : (z : ℤ) {a : ℕ} → nat_abs z ≤ a → a < 2 ^ 63 → SFits w64 z
fits z h k = fits_signed_from_abs w64 z (omega arith)
