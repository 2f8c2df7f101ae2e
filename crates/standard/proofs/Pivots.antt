-- Pivots as sums made one prediction at a time, how large they grow, and that they rise. Assumes nothing.
use mathlib.Core.Path.{◌≡◌, refl, ap}
use mathlib.Core.Logic.{⊎_elim}
use Prim.Native.Nat.{ℕ, zero, suc, ◌+◌, ◌*◌, ◌≤◌, zero-le}
use native.Mathlib.Nat.{zero-add, suc-mul, le_of_eq, le_trans, eq-or-lt_of_le}
use native.Mathlib.Numerals.{add-one}
use native.Mathlib.Omega.{arith}
use Rattle.standard.specs.Mapping.{pivot_value}

-- the sum of the first k predictions
unfoldable pub total : (ℕ → ℕ) → ℕ → ℕ
total pred zero = 0
total pred (suc k) = total pred k + pred k

pub total_none : (pred : ℕ → ℕ) → 0 ≡ total pred 0
unfolding total
total_none pred = refl

pub total_more : (pred : ℕ → ℕ) (k : ℕ) → total pred k + pred k ≡ total pred (k + 1)
unfolding total
total_more pred k = rw add-one

-- pivot i is the sum of the predictions up to i
pub total_pivot : (pred : ℕ → ℕ) (i : ℕ) → total pred i + pred i ≡ pivot_value pred i
unfolding total pivot_value
total_pivot pred zero = zero-add (pred 0)
total_pivot pred (suc i) = ap (λ (n : ℕ). n + pred (suc i)) (total_pivot pred i)

pub total_le : (pred : ℕ → ℕ) (m k : ℕ) → ((i : ℕ) → pred i ≤ m) → total pred k ≤ k * m
unfolding total
total_le pred m zero h = zero-le
total_le pred m (suc k) h = rw suc-mul (omega (arith, total_le pred m k h, h k))

-- pivots rise
pub rising : (pred : ℕ → ℕ) (i k : ℕ) → i ≤ k → pivot_value pred i ≤ pivot_value pred k
unfolding pivot_value
rising pred i zero h = let e : i ≡ 0 = omega arith in le_of_eq (ap (pivot_value pred) e)
rising pred i (suc k) h = ⊎_elim (λ e. le_of_eq (ap (pivot_value pred) e)) (λ l. le_trans (rising pred i k (omega arith)) (omega arith)) (eq-or-lt_of_le h)
