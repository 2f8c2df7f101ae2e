-- The HDR sample by a raised residual and a cut sum is the standard's. Assumes nothing.
use mathlib.Core.Path.{◌≡◌, refl, sym, ap, ◌∙◌}
use mathlib.Core.Bool.{Bool, true, false, cond}
use mathlib.Core.Logic.{◌⊎◌, inl, inr}
use Prim.Native.Nat.{ℕ, suc, ◌+◌, ◌-◌, ◌*◌, ◌/◌, ◌^◌, ◌<◌, ◌≤◌, min}
use native.Mathlib.Nat.{le_refl, lt_irrefl, lt_of_lt_of_le, add-zero, add_comm, mul_comm, mul_assoc, mul-sub, add-mul-div_right, div-le_self, div-lt_iff_lt-mul, le-div_iff_mul-le, div-div-eq-div-mul}
use native.Mathlib.Omega.{arith}
use lib.Dec.{T, ltb}
use lib.IntN.{ℤ, pos, negsuc, nat_abs, ◌+ℤ◌, +ℤ_assoc}
use lib.Pow.{pow_pos, pow-add, pow_mono}
use lib.Signed.{shr_z, non_neg}
use borrow.Author.Tests.{ltb-true, ltb-false}
use Rattle.std.proofs.lemmas.Bool.{cases_lt}
use Rattle.words.proofs.Bounds.{add_in}
use Rattle.standard.specs.Mapping.{from_zero}
use Rattle.standard.specs.Residual.{reconstructed}
use Rattle.residual.specs.inner.Raising.{raised, lowered}

-- a difference after the shift is one before it
shifted : (x : ℤ) (k n : ℕ) → 0 < n → from_zero (shr_z x n) ≡ from_zero (x +ℤ pos (k * n)) / n - k
shifted (pos a) k n p = omega (arith, add-mul-div_right a k p)
shifted (negsuc a) k n p = go (ltb (k * n) (suc a)) refl
  where
    go : (t : Bool) → ltb (k * n) (suc a) ≡ t → 0 ≡ from_zero (cond t (negsuc (suc a - suc (k * n))) (pos (k * n - suc a))) / n - k
    go true e = omega (arith, div-le_self 0 n)
    go false e = omega (arith, ltb-false (k * n) (suc a) e, (div-lt_iff_lt-mul {x = k * n - suc a} {y = k} p).1 (omega (arith, ltb-false (k * n) (suc a) e)))

-- a sum with a negative number is not above the other
less : (v b : ℕ) → from_zero (pos v +ℤ negsuc b) ≤ v
less v b = go (ltb v (suc b))
  where
    go : (t : Bool) → from_zero (cond t (negsuc (suc b - suc v)) (pos (v - suc b))) ≤ v
    go true = omega arith
    go false = omega arith

module _ (out : ℕ) (h : out ≤ 12) where
  -- 2 ^ 12 before the last shift is 2 ^ out after it, and a sixteenth is the first of two shifts
  size : 2 ^ out * 2 ^ (12 - out) ≡ 4096
  size = let e : out + (12 - out) ≡ 12 = omega arith in sym (pow-add 2 out (12 - out)) ∙ ap (λ (n : ℕ). 2 ^ n) e

  sixteenth : (n : ℕ) → n / 16 / 2 ^ (12 - out) ≡ n / 2 ^ (16 - out)
  sixteenth n =
      let e : 4 + (12 - out) ≡ 16 - out = omega arith in
      div-div-eq-div-mul n 16 (2 ^ (12 - out)) ∙ ap (λ (m : ℕ). n / m) (sym (pow-add 2 4 (12 - out)) ∙ ap (λ (n : ℕ). 2 ^ n) e)

  under : (c k : ℕ) → k < c * 4096 → k / 2 ^ (12 - out) < c * 2 ^ out
  under c k b = (div-lt_iff_lt-mul (pow_pos (12 - out))).1 (rw (mul_assoc, size) b)

  -- a cut below its range
  lowered_zero : (k : ℕ) → k < 8192 → lowered out k ≡ 0
  unfolding lowered
  lowered_zero k b = omega (arith, under 2 k (omega arith))

  -- the standard's sample is the cut of the sum of integers
  whole : (v : ℕ) (r : ℤ) → reconstructed out v r ≡ lowered out (from_zero (pos v +ℤ (r +ℤ pos (2 ^ 17 + 2 ^ (15 - out)))) / 16)
  unfolding reconstructed lowered
  whole v r =
      let half = 2 ^ (15 - out) in
      let e : out + (16 - out) ≡ 16 = omega arith in
      let bias : 2 * 2 ^ out * 2 ^ (16 - out) ≡ 2 ^ 17 = mul_assoc 2 (2 ^ out) (2 ^ (16 - out)) ∙ ap (λ (n : ℕ). 2 * n) (sym (pow-add 2 out (16 - out)) ∙ ap (λ (n : ℕ). 2 ^ n) e) in
      let sum : pos v +ℤ r +ℤ pos half +ℤ pos (2 ^ 17) ≡ pos v +ℤ (r +ℤ pos (2 ^ 17 + half)) =
      +ℤ_assoc (pos v +ℤ r) (pos half) (pos (2 ^ 17)) ∙ +ℤ_assoc (pos v) r (pos half +ℤ pos (2 ^ 17)) ∙ ap (λ (n : ℕ). pos v +ℤ (r +ℤ pos n)) (add_comm half (2 ^ 17)) in
      ap (λ (n : ℕ). min n (2 ^ out - 1))
      (shifted (pos v +ℤ r +ℤ pos half) (2 * 2 ^ out) (2 ^ (16 - out)) (pow_pos (16 - out)) ∙ rw (bias, sum, sixteenth))

  cut_sum : (v : ℕ) → v ≤ 65535 → (z : ℤ) → lowered out ((v + from_zero z) / 16) ≡ lowered out (from_zero (pos v +ℤ z) / 16)
  cut_sum v small (pos a) = refl
  cut_sum v small (negsuc b) =
      lowered_zero ((v + 0) / 16) (omega arith) ∙ sym (lowered_zero (from_zero (pos v +ℤ negsuc b) / 16) (omega (arith, less v b)))

  -- a mapped sample and a raised residual, added and cut
  pub lowered-raised : (v : ℕ) (r : ℤ) → v ≤ 65535 → lowered out ((v + raised out r) / 16) ≡ reconstructed out v r
  unfolding raised
  lowered-raised v r small = cut_sum v small (r +ℤ pos (2 ^ 17 + 2 ^ (15 - out))) ∙ sym (whole v r)

-- a number raised by as much as it can be below 0
pub not_negative : (r : ℤ) (n : ℕ) → nat_abs r ≤ n → T (non_neg (r +ℤ pos n)) × (nat_abs (r +ℤ pos n) ≡ from_zero (r +ℤ pos n))
not_negative (pos a) n b = (tt, refl)
not_negative (negsuc a) n b = go (ltb n (suc a)) refl
  where
    go : (t : Bool) → ltb n (suc a) ≡ t → T (non_neg (cond t (negsuc (suc a - suc n)) (pos (n - suc a)))) × (nat_abs (cond t (negsuc (suc a - suc n)) (pos (n - suc a))) ≡ from_zero (cond t (negsuc (suc a - suc n)) (pos (n - suc a))))
    go true e = absurd (lt_irrefl n (lt_of_lt_of_le (ltb-true n (suc a) e) b))
    go false e = (tt, refl)

pub raised_cast : (out : ℕ) (r : ℤ) → nat_abs r ≤ 2 ^ 17 → T (non_neg (r +ℤ pos (2 ^ 17 + 2 ^ (15 - out)))) × (nat_abs (r +ℤ pos (2 ^ 17 + 2 ^ (15 - out))) ≡ raised out r)
unfolding raised
raised_cast out r b = not_negative r (2 ^ 17 + 2 ^ (15 - out)) (omega arith)

pub raised_less : (out : ℕ) (r : ℤ) → nat_abs r ≤ 2 ^ 17 → raised out r ≤ 2 ^ 18 + 2 ^ 15
raised_less out r b =
    omega (arith, (raised_cast out r b).1, add_in r (pos (2 ^ 17 + 2 ^ (15 - out))) b (le_refl _), pow_mono {i = 15 - out} {j = 15} (omega arith))

-- a sample without residual may be cut before it is rounded
module _ (out : ℕ) (h : out ≤ 12) where
  bias : 2 ^ (16 - out) * 2 ^ out ≡ 2 ^ 16
  bias = let e : 16 - out + out ≡ 16 = omega arith in sym (pow-add 2 (16 - out) out) ∙ ap (λ (n : ℕ). 2 ^ n) e

  inside : (k : ℕ) → k < 2 ^ 16 → k / 2 ^ (16 - out) < 2 ^ out
  inside k b = (div-lt_iff_lt-mul (pow_pos (16 - out))).1 (rw (mul_comm, bias) b)

  edge : 2 ^ out - 1 ≤ 65535 / 2 ^ (16 - out)
  edge = (le-div_iff_mul-le (pow_pos (16 - out))).1 (rw (mul_comm, mul-sub, bias) (omega (arith, pow_pos (16 - out))))

  past : (k : ℕ) → 2 ^ 16 ≤ k → 2 ^ out ≤ k / 2 ^ (16 - out)
  past k b = (le-div_iff_mul-le (pow_pos (16 - out))).1 (rw (mul_comm, bias) b)

  pub plain : (v : ℕ) → min (v + 2 ^ (15 - out)) 65535 / 2 ^ (16 - out) ≡ reconstructed out v (pos 0)
  unfolding reconstructed
  plain v = rw add-zero (go (pow_mono {i = 15 - out} {j = 15} (omega arith)) (cases_lt (65535 - 2 ^ (15 - out)) v))
    where
      go : {half : ℕ} → half ≤ 2 ^ 15 → (65535 - half < v) ⊎ (v ≤ 65535 - half) → min (v + half) 65535 / 2 ^ (16 - out) ≡ min ((v + half) / 2 ^ (16 - out)) (2 ^ out - 1)
      go {half} s (inl p) =
          let e : min (v + half) 65535 ≡ 65535 = omega arith in
          rw e (omega (arith, edge, inside 65535 (omega arith), past (v + half) (omega arith)))
      go {half} s (inr p) =
          let e : min (v + half) 65535 ≡ v + half = omega arith in
          rw e (omega (arith, inside (v + half) (omega arith)))
