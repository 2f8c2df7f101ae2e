-- The residual by its steps, and its size at every depth and d. Assumes nothing.
use mathlib.Core.Path.{◌≡◌, refl, sym, ap, ◌∙◌}
use mathlib.Core.Bool.{Bool, true, false, cond, true≢false}
use Prim.Native.Nat.{ℕ, zero, suc, ◌+◌, ◌-◌, ◌*◌, ◌^◌, ◌<◌, ◌≤◌, zero-le, suc-le-suc}
use native.Mathlib.Nat.{le_refl, le_trans, le_of_eq, mul_comm, mul-le-mul_right, div-le_of_le-mul, div-lt_iff_lt-mul}
use lib.Pow.{pow_pos, pow-add}
use borrow.Author.Tests.{ltb-false}
use native.Mathlib.Omega.{arith}
use lib.IntN.{ℤ, pos, negsuc, nat_abs, neg_ℤ, ◌+ℤ◌, ◌-ℤ◌, ◌*ℤ◌}
use lib.Signed.{lt_z, shr_z}
use Rattle.words.proofs.Bounds.{abs_neg}
use Rattle.standard.specs.Parameters.{Quantization}
use Rattle.standard.specs.Residual.{sign_of, scaled, limit, limited, dequantized, unless_zero, residual}

-- the scaled distance, by the two powers of two in it
pub scaled_by : (el S T : ℕ) (rr sign f g : ℤ) → f ≡ pos (2 ^ (10 - el)) → g ≡ pos (2 ^ (10 - el + 1)) → (rr *ℤ pos 2 -ℤ sign) *ℤ f *ℤ pos S +ℤ pos T *ℤ g *ℤ sign ≡ scaled el S T rr sign
scaled_by el S T rr sign f g e h = rw (e, h)

module _ (el d : ℕ) (q : Quantization) where
  -- a distance of 0, and any other
  pub none : (e : ℕ) {rr : ℤ} → rr ≡ pos e -ℤ pos q.nlq_offset → rr ≡ pos 0 → pos 0 ≡ residual el d q e
  unfolding residual
  none e er ez = sym (ap (unless_zero el d q) (sym er ∙ ez))

  other : (z : ℤ) → (z ≡ pos 0 → ⊥) → dequantized el d q z ≡ unless_zero el d q z
  other (pos zero) h = absurd (h refl)
  other (pos (suc n)) h = refl
  other (negsuc n) h = refl

  pub steps : (e : ℕ) (rr sign dq m l : ℤ) → rr ≡ pos e -ℤ pos q.nlq_offset → (rr ≡ pos 0 → ⊥) → sign ≡ sign_of rr → dq ≡ scaled el q.fp_linear_deadzone_slope q.fp_linear_deadzone_threshold rr sign → m ≡ limit el q.fp_hdr_in_max → l ≡ limited m dq → shr_z l (2 ^ (d - 5 - el)) ≡ residual el d q e
  unfolding residual
  steps e rr sign dq m l er nz es ed em eq = rw (eq, em, ed, es) (other rr nz) ∙ ap (unless_zero el d q) er

-- the size: a limit of at most 2 ^ (d + 1) leaves at most 2 ^ 17
limited-abs : (m : ℕ) (dq : ℤ) (t u : Bool) → lt_z (pos m) dq ≡ t → lt_z dq (neg_ℤ (pos m)) ≡ u → nat_abs (cond t (pos m) (cond u (neg_ℤ (pos m)) dq)) ≤ m
limited-abs m dq true u e h = le_refl m
limited-abs m dq false true e h = le_of_eq (abs_neg (pos m))
limited-abs m (pos a) false false e h = ltb-false m a e
limited-abs zero (negsuc a) false false e h = absurd (true≢false h)
limited-abs (suc m) (negsuc a) false false e h = suc-le-suc (ltb-false m a h)

limited_le : (m : ℕ) (dq : ℤ) → nat_abs (limited (pos m) dq) ≤ m
limited_le m dq = limited-abs m dq (lt_z (pos m) dq) (lt_z dq (neg_ℤ (pos m))) refl refl

shifted_le : (z : ℤ) (m k : ℕ) → 0 < m → nat_abs z ≤ k * m → nat_abs (shr_z z m) ≤ k
shifted_le (pos a) m k p h = div-le_of_le-mul m (le_trans h (le_of_eq (mul_comm k m)))
shifted_le (negsuc a) m k p h = (div-lt_iff_lt-mul p).1 h

module _ (el d : ℕ) (q : Quantization) (a : el ≤ 10) (b : el + 5 ≤ d) (h : q.fp_hdr_in_max ≤ 2 ^ (d + 1)) where
  dequantized_le : (z : ℤ) → nat_abs (dequantized el d q z) ≤ 2 ^ 17
  dequantized_le z =
      let R = q.fp_hdr_in_max in
      let dq = scaled el q.fp_linear_deadzone_slope q.fp_linear_deadzone_threshold z (sign_of z) in
      let e : d + 1 + (10 - el + 1) ≡ 17 + (d - 5 - el) = omega arith in
      shifted_le (limited (limit el R) dq) (2 ^ (d - 5 - el)) (2 ^ 17) (pow_pos (d - 5 - el))
      (le_trans (limited_le (R * 2 ^ (10 - el + 1)) dq)
      (le_trans (mul-le-mul_right (2 ^ (10 - el + 1)) h)
      (le_of_eq (sym (pow-add 2 (d + 1) (10 - el + 1)) ∙ ap (λ (n : ℕ). 2 ^ n) e ∙ pow-add 2 17 (d - 5 - el)))))

  sized : (z : ℤ) → nat_abs (unless_zero el d q z) ≤ 2 ^ 17
  sized (pos zero) = zero-le
  sized (pos (suc n)) = dequantized_le (pos (suc n))
  sized (negsuc n) = dequantized_le (negsuc n)

  pub residual_le : (e : ℕ) → nat_abs (residual el d q e) ≤ 2 ^ 17
  unfolding residual
  residual_le e = sized (pos e -ℤ pos q.nlq_offset)
