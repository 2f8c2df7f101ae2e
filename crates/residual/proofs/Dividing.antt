-- A scaled distance that is raised above 0, divided and only then limited comes to what the standard's order of these steps gives.
-- Assumes nothing.
use mathlib.Core.Path.{◌≡◌, refl, sym, ap, ◌∙◌}
use mathlib.Core.Bool.{Bool, true, false, cond, true≢false}
use mathlib.Core.Logic.{◌⊎◌, inl, inr}
use Prim.Native.Nat.{ℕ, zero, suc, ◌+◌, ◌-◌, ◌*◌, ◌/◌, ◌^◌, ◌<◌, ◌≤◌, min, max}
use native.Mathlib.Nat.{le_antisymm, mul_comm, suc-mul, mul-sub, add-mul-div_right, div-mul-le_self, lt-div-mul-add, div-lt_iff_lt-mul, le-div_iff_mul-le, div-le_of_le-mul}
use native.Mathlib.Omega.{arith}
use lib.Dec.{ltb}
use lib.IntN.{ℤ, pos, negsuc, neg_ℤ, sub_ℕ, ◌+ℤ◌}
use lib.Pow.{pow_pos, pow_mono, shr_mono}
use lib.Signed.{lt_z, shr_z}
use borrow.Author.Tests.{ltb-true, ltb-false}
use Rattle.std.proofs.lemmas.Bool.{cases_lt}
use Rattle.standard.specs.Mapping.{from_zero}
use Rattle.standard.specs.Residual.{limited}
use Rattle.residual.specs.inner.Raising.{raised}
use Rattle.residual.specs.inner.Steps.{far_of, raised_by}

-- a difference that is 0 where it would be negative
difference : (a b : ℕ) → from_zero (sub_ℕ a b) ≡ a - b
difference a b = go (ltb a b) refl
  where
    go : (t : Bool) → ltb a b ≡ t → from_zero (cond t (negsuc (b - suc a)) (pos (a - b))) ≡ a - b
    go true e = omega (arith, ltb-true a b e)
    go false e = refl

-- what is below a multiple, divided
below : (k n a : ℕ) → 0 < n → (k * n - suc a) / n ≡ k - suc (a / n)
below k n a p =
    let q = a / n in
    let e : (k - suc q) * n ≡ k * n - (q * n + n) = mul_comm (k - suc q) n ∙ mul-sub n k (suc q) ∙ rw (mul_comm n k, mul_comm n (suc q), suc-mul) in
    let under : (k * n - suc a) / n < suc (k - suc q) = (div-lt_iff_lt-mul p).1 (rw suc-mul (omega (arith, e, div-mul-le_self a n))) in
    le_antisymm (omega arith) ((le-div_iff_mul-le p).1 (omega (arith, e, lt-div-mul-add {a = a} p)))

-- raised before it is divided, and lowered again
divided : (z : ℤ) (k n b : ℕ) → 0 < n → b ≤ k → from_zero (shr_z z n +ℤ pos b) ≡ from_zero (z +ℤ pos (k * n)) / n - (k - b)
divided (pos a) k n b p h = omega (arith, add-mul-div_right a k p)
divided (negsuc a) k n b p h =
    difference b (suc (a / n)) ∙ rw (difference (k * n) (suc a), below k n a p) (omega arith)

-- limited after it is raised
raised_first : (far m : ℕ) (dq : ℤ) (t u : Bool) → m ≤ far → lt_z (pos m) dq ≡ t → lt_z dq (neg_ℤ (pos m)) ≡ u → from_zero (cond t (pos m) (cond u (neg_ℤ (pos m)) dq) +ℤ pos far) ≡ max (min (from_zero (dq +ℤ pos far)) (far + m)) (far - m)
raised_first far m (pos a) true u s e h = omega (arith, ltb-true m a e)
raised_first far m (pos a) false false s e h = omega (arith, ltb-false m a e)
raised_first far zero (pos a) false true s e h = omega (arith, ltb-true a 0 h)
raised_first far (suc m) (pos a) false true s e h = absurd (true≢false (sym h))
raised_first far m (negsuc a) true u s e h = absurd (true≢false (sym e))
raised_first far zero (negsuc a) false false s e h = absurd (true≢false h)
raised_first far zero (negsuc a) false true s e h = omega (arith, difference far (suc a))
raised_first far (suc m) (negsuc a) false false s e h = omega (arith, difference far (suc a), ltb-false m a h)
raised_first far (suc m) (negsuc a) false true s e h = omega (arith, difference far (suc a), difference far (suc m), ltb-true m a h)

-- a division keeps the order
div-min : (k a b : ℕ) → min a b / 2 ^ k ≡ min (a / 2 ^ k) (b / 2 ^ k)
div-min k a b = go (cases_lt a b)
  where
    go : (a < b) ⊎ (b ≤ a) → min a b / 2 ^ k ≡ min (a / 2 ^ k) (b / 2 ^ k)
    go (inl p) = let e : min a b ≡ a = omega arith in rw e (omega (arith, shr_mono {a = a} {b = b} k (omega arith)))
    go (inr p) = let e : min a b ≡ b = omega arith in rw e (omega (arith, shr_mono {a = b} {b = a} k p))

div-max : (k a b : ℕ) → max a b / 2 ^ k ≡ max (a / 2 ^ k) (b / 2 ^ k)
div-max k a b = go (cases_lt a b)
  where
    go : (a < b) ⊎ (b ≤ a) → max a b / 2 ^ k ≡ max (a / 2 ^ k) (b / 2 ^ k)
    go (inl p) = let e : max a b ≡ b = omega arith in rw e (omega (arith, shr_mono {a = a} {b = b} k (omega arith)))
    go (inr p) = let e : max a b ≡ a = omega arith in rw e (omega (arith, shr_mono {a = b} {b = a} k p))

-- what the code computes: raised, divided, limited and lowered; and how large the two limits are
module _ (shift most : ℕ) (h : most ≤ 2 ^ 17 * 2 ^ shift) where
  limited_last : (dq : ℤ) → from_zero (limited (pos most) dq +ℤ pos (far_of shift)) / 2 ^ shift ≡ max (min (from_zero (dq +ℤ pos (far_of shift)) / 2 ^ shift) ((far_of shift + most) / 2 ^ shift)) ((far_of shift - most) / 2 ^ shift)
  limited_last dq = ap (λ (n : ℕ). n / 2 ^ shift) (raised_first (far_of shift) most dq _ _ (omega arith) refl refl) ∙ div-max shift _ _ ∙ rw div-min

  pub raised-after : (out : ℕ) (dq : ℤ) {far half v t : ℕ} → far ≡ far_of shift → half ≡ 2 ^ (15 - out) → v ≡ from_zero (dq +ℤ pos far) / 2 ^ shift → t ≡ max (min v ((far + most) / 2 ^ shift)) ((far - most) / 2 ^ shift) → t - (536870912 - 131072 - half) ≡ raised_by out shift (pos most) dq
  unfolding raised_by raised
  raised-after out dq ef eh ev et =
      let small = pow_mono {i = 15 - out} {j = 15} (omega arith) in
      rw (et, ev, ef, eh, divided (limited (pos most) dq) (2 ^ 29) (2 ^ shift) (2 ^ 17 + 2 ^ (15 - out)) (pow_pos shift) (omega arith), limited_last dq) (omega arith)

  pub low_ge : 2 ^ 29 - 2 ^ 17 ≤ (far_of shift - most) / 2 ^ shift
  low_ge = (le-div_iff_mul-le (pow_pos shift)).1 (omega arith)

  pub high_le : (far_of shift + most) / 2 ^ shift ≤ 2 ^ 30
  high_le = div-le_of_le-mul (2 ^ shift) (omega arith)
