-- The sum by its integer parts and its fractions apart is the standard's sum. Assumes nothing.
use mathlib.Core.Path.{◌≡◌, refl, sym, ap, ap₂, ◌∙◌}
use Prim.Native.Nat.{ℕ, zero, suc, ◌+◌, ◌*◌, ◌/◌, ◌^◌, ◌<◌}
use native.Mathlib.Nat.{add-zero, zero-mul}
use native.Mathlib.Numerals.{add-one}
use lib.Pow.{pow_pos}
use lib.IntN.{ℤ, pos, ◌+ℤ◌, ◌*ℤ◌}
use lib.Signed.{shr_z}
use Rattle.mmr.specs.inner.Apart.{fraction, whole_sum, part_sum}
use Rattle.words.proofs.Integers.{distrib, swap_terms}
use Rattle.mmr.proofs.Ring.{swap_factors, recomposed, floor_sum}

-- one term more
pub whole_none : (w : ℕ → ℤ) (t : ℕ → ℕ) → pos 0 ≡ whole_sum w t 0
unfolding whole_sum
whole_none w t = refl

pub whole_more : (w : ℕ → ℤ) (t : ℕ → ℕ) (k : ℕ) → whole_sum w t k +ℤ w k *ℤ pos (t k) ≡ whole_sum w t (k + 1)
unfolding whole_sum
whole_more w t k = rw add-one

pub part_none : (p t : ℕ → ℕ) → 0 ≡ part_sum p t 0
unfolding part_sum
part_none p t = refl

pub part_more : (p t : ℕ → ℕ) (k : ℕ) → part_sum p t k + p k * t k ≡ part_sum p t (k + 1)
unfolding part_sum
part_more p t k = rw add-one

module _ (c : ℕ → ℤ) (t : ℕ → ℕ) (m : ℕ) (p : 0 < m) where
  abbrev whole : ℕ → ℤ
  whole i = shr_z (c i) m

  abbrev part : ℕ → ℕ
  part i = fraction (c i) m

  -- one term: c t = (whole t) m + part t
  term : (i : ℕ) → c i *ℤ pos (t i) ≡ whole i *ℤ pos (t i) *ℤ pos m +ℤ pos (part i * t i)
  term i =
      ap (λ (z : ℤ). z *ℤ pos (t i)) (sym (recomposed m p (c i)))
      ∙ distrib (whole i *ℤ pos m) (pos (part i)) (pos (t i))
      ∙ ap (λ (z : ℤ). z +ℤ pos (part i * t i)) (swap_factors (whole i) m (t i))

  -- all terms
  summed : (k : ℕ) → whole_sum c t k ≡ whole_sum whole t k *ℤ pos m +ℤ pos (part_sum part t k)
  unfolding whole_sum part_sum
  summed zero = sym (ap pos (add-zero (0 * m) ∙ zero-mul m))
  summed (suc k) =
      let a = whole_sum whole t k in
      let f = part_sum part t k in
      let b = whole k *ℤ pos (t k) in
      let g = part k * t k in
      ap₂ (λ (x y : ℤ). x +ℤ y) (summed k) (term k)
      ∙ swap_terms (a *ℤ pos m) (pos f) (b *ℤ pos m) (pos g)
      ∙ ap (λ (z : ℤ). z +ℤ pos (f + g)) (sym (distrib a b (pos m)))

-- the floor of the sum is the sum of the integer parts and the floor of the fractions' sum
pub floored : (c : ℕ → ℤ) (t : ℕ → ℕ) (d k : ℕ) → whole_sum (λ i. shr_z (c i) (2 ^ d)) t k +ℤ pos (part_sum (λ i. fraction (c i) (2 ^ d)) t k / 2 ^ d) ≡ shr_z (whole_sum c t k) (2 ^ d)
floored c t d k =
    sym (ap (λ (z : ℤ). shr_z z (2 ^ d)) (summed c t (2 ^ d) (pow_pos d) k)
    ∙ floor_sum (whole_sum (λ i. shr_z (c i) (2 ^ d)) t k) (part_sum (λ i. fraction (c i) (2 ^ d)) t k) (2 ^ d) (pow_pos d))
