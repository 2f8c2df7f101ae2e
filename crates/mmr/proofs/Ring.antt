-- The laws of ℤ that the sums apart need and the logic's library lacks, and the floor of a sum. Assumes nothing.
use mathlib.Core.Path.{◌≡◌, refl, sym, ap, ◌∙◌, subst}
use Prim.Native.Nat.{ℕ, zero, suc, ◌+◌, ◌*◌, ◌-◌, ◌/◌, ◌%◌, ◌^◌, ◌<◌, min}
use native.Mathlib.Nat.{zero-div, mod-lt, suc-mul, zero-mul, mul_right_comm, div-add-mod', mul-pos, zero-lt-suc, lt_irrefl}
use native.Mathlib.Omega.{arith}
use lib.Arith.{digits_div}
use lib.Pow.{shr-shr}
use lib.IntN.{ℤ, pos, negsuc, neg_ℤ, ◌+ℤ◌, ◌-ℤ◌, ◌*ℤ◌, +ℤ_assoc, +ℤ_comm, +ℤ-neg_ℤ_cancel}
use lib.Signed.{shr_z}
use borrow.Author.Tests.{lt-ltb}
use Rattle.words.proofs.Integers.{distrib}
use Rattle.standard.specs.Mapping.{from_zero, cut}
use Rattle.mmr.specs.inner.Apart.{fraction}

neg_mul : (x t : ℕ) → neg_ℤ (pos x) *ℤ pos t ≡ neg_ℤ (pos (x * t))
neg_mul zero t = rw zero-mul
neg_mul (suc x) t = refl

-- two factors that are not negative change places
pub swap_factors : (w : ℤ) (m t : ℕ) → w *ℤ pos m *ℤ pos t ≡ w *ℤ pos t *ℤ pos m
swap_factors (pos a) m t = ap pos (mul_right_comm a m t)
swap_factors (negsuc a) m t = neg_mul (suc a * m) t ∙ ap (λ (n : ℕ). neg_ℤ (pos n)) (mul_right_comm (suc a) m t) ∙ sym (neg_mul (suc a * t) m)

-- an integer is its floor times m, and its fraction
module _ (m : ℕ) (p : 0 < m) where
  pub fraction_lt : (z : ℤ) → fraction z m < m
  fraction_lt (pos a) = mod-lt a p
  fraction_lt (negsuc a) = omega arith

  whole_below : (a r : ℕ) → r ≡ suc (a / m) * m → neg_ℤ (pos r) +ℤ pos (m - suc (a % m)) ≡ negsuc a
  whole_below a zero e = absurd (lt_irrefl 0 (subst (λ (n : ℕ). 0 < n) (sym e) (mul-pos (zero-lt-suc (a / m)) p)))
  whole_below a (suc q) e =
      let f = m - suc (a % m) in
      let h : f < suc q = omega (arith, suc-mul (a / m) m) in
      let s : suc q - suc f ≡ a = omega (arith, suc-mul (a / m) m, div-add-mod' a m, mod-lt a p) in
      rw (lt-ltb f (suc q) h) (ap negsuc s)

  pub recomposed : (z : ℤ) → shr_z z m *ℤ pos m +ℤ pos (fraction z m) ≡ z
  recomposed (pos a) = ap pos (div-add-mod' a m)
  recomposed (negsuc a) = whole_below a (suc (a / m) * m) refl

  -- what is left after its floor's multiple is taken off
  pub left_over : (z : ℤ) → z -ℤ shr_z z m *ℤ pos m ≡ pos (fraction z m)
  left_over z =
      let q = shr_z z m *ℤ pos m in
      ap (λ (y : ℤ). y -ℤ q) (sym (recomposed z) ∙ +ℤ_comm q (pos (fraction z m))) ∙ +ℤ-neg_ℤ_cancel (pos (fraction z m)) q

-- the floor of q m + r
floor_of : (q : ℤ) (r m : ℕ) → r < m → shr_z (q *ℤ pos m +ℤ pos r) m ≡ q
floor_of (pos a) r m h = ap pos (digits_div a h)
floor_of (negsuc a) r m h = go (suc a * m) refl
  where
    go : (n : ℕ) → n ≡ suc a * m → shr_z (neg_ℤ (pos n) +ℤ pos r) m ≡ negsuc a
    go zero e = absurd (lt_irrefl 0 (omega (arith, suc-mul a m)))
    go (suc n) e =
        let l : r < suc n = omega (arith, suc-mul a m) in
        let s : suc n - suc r ≡ a * m + (m - suc r) = omega (arith, suc-mul a m) in
        rw (lt-ltb r (suc n) l) (ap negsuc (ap (λ (k : ℕ). k / m) s ∙ digits_div a (omega arith)))

-- the floor of z m + f, by the floor of f
pub floor_sum : (z : ℤ) (f m : ℕ) → 0 < m → shr_z (z *ℤ pos m +ℤ pos f) m ≡ z +ℤ pos (f / m)
floor_sum z f m p =
    ap (λ (y : ℤ). shr_z y m)
    (ap (λ (n : ℕ). z *ℤ pos m +ℤ pos n) (sym (div-add-mod' f m)) ∙ sym (+ℤ_assoc (z *ℤ pos m) (pos (f / m * m)) (pos (f % m)))
    ∙ ap (λ (y : ℤ). y +ℤ pos (f % m)) (sym (distrib z (pos (f / m)) (pos m))))
    ∙ floor_of (z +ℤ pos (f / m)) (f % m) m (mod-lt f p)

zero_shr : (z : ℤ) (m : ℕ) → from_zero (shr_z z m) ≡ from_zero z / m
zero_shr (pos a) m = refl
zero_shr (negsuc a) m = sym (zero-div m)

-- a floor that is cut is the number cut
pub cut_floor : (z : ℤ) (d : ℕ) → min (from_zero (shr_z z (2 ^ d)) / 2 ^ 4) 65535 ≡ cut d z
cut_floor z d =
    let e : d + 4 ≡ 4 + d = omega arith in
    ap (λ (n : ℕ). min n 65535) (ap (λ (n : ℕ). n / 2 ^ 4) (zero_shr z (2 ^ d)) ∙ shr-shr (from_zero z) d 4 ∙ ap (λ (n : ℕ). from_zero z / 2 ^ n) e)
