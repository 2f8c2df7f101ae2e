-- Shifts of a small number to the left by at most 32 are products, which an i64 holds. Assumes nothing.
use mathlib.Core.Path.{◌≡◌, ◌∙◌}
use Prim.Native.Nat.{ℕ, ◌*◌, ◌%◌, ◌^◌, ◌≤◌}
use native.Mathlib.Nat.{one-mul}
use native.Mathlib.Omega.{arith}
use lib.Pow.{shl_exact, pow_mono}

pub shifted : (a k : ℕ) → a ≤ 64 → k ≤ 32 → (a * 2 ^ k) % 18446744073709551616 ≡ a * 2 ^ k
shifted a k h t = shl_exact {a = a} 7 k 64 (omega arith) (omega arith)

pub one_shifted : (k : ℕ) → k ≤ 32 → (1 * 2 ^ k) % 18446744073709551616 ≡ 2 ^ k
one_shifted k t = shifted 1 k (omega arith) t ∙ one-mul (2 ^ k)

pub shifted_le : (k : ℕ) → k ≤ 32 → 64 * 2 ^ k ≤ 64 * 2 ^ 32
shifted_le k t = omega (arith, pow_mono {i = k} {j = 32} t)
