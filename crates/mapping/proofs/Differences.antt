-- The sum over a row goes on from one sample to the next by its differences, and how large they are. Assumes nothing.
use mathlib.Core.Path.{◌≡◌, refl, sym, ap, ap₂, ◌∙◌}
use mathlib.Core.List.{List}
use Prim.Native.Nat.{ℕ, ◌+◌, ◌-◌, ◌*◌, ◌^◌, ◌≤◌}
use native.Mathlib.Nat.{le_trans, mul_assoc, one-mul, add-mul, mul-add, mul-le-mul}
use native.Mathlib.Omega.{arith}
use lib.IntN.{ℤ, pos, nat_abs, ◌+ℤ◌, ◌*ℤ◌, +ℤ_assoc}
use lib.Pow.{pow_pos, pow-add, pow_mono}
use Rattle.words.proofs.Bounds.{add_in, mul_in}
use Rattle.words.proofs.Integers.{distrib_pos, swap_terms}
use Rattle.standard.specs.Mapping.{weight, poly_sum}
use Rattle.standard.proofs.Polynomials.{three-terms}
use Rattle.standard.proofs.Weights.{weight_le}
use Rattle.mapping.specs.inner.Copies.{coef}
use Rattle.mapping.specs.inner.Steps.{growth, bend, RowRanges}

module _ (depth : ℕ) (row : List ℤ) (s : ℕ) where
  abbrev u : ℕ
  u = 2 ^ (20 - depth)

  abbrev v : ℕ
  v = 2 ^ (20 - 2 * depth)

  next_square : s * s * v + (2 * s + 1) * v ≡ (s + 1) * (s + 1) * v
  next_square = sym (add-mul (s * s) (2 * s + 1) v) ∙ ap (λ (n : ℕ). n * v) (omega (arith, add-mul s 1 (s + 1), mul-add s s 1))

  pub next_value : poly_sum depth s (coef row) 2 +ℤ growth depth row s ≡ poly_sum depth (s + 1) (coef row) 2
  next_value =
      let one = pos (s * u) in
      let two = pos (s * s * v) in
      let c = coef row in
      ap (λ (z : ℤ). z +ℤ growth depth row s) (sym (three-terms depth s c one two refl refl))
      ∙ swap_terms (c 0 *ℤ pos (2 ^ 20) +ℤ c 1 *ℤ one) (c 2 *ℤ two) (c 1 *ℤ pos u) (c 2 *ℤ pos ((2 * s + 1) * v))
      ∙ ap₂ ◌+ℤ◌
      (+ℤ_assoc (c 0 *ℤ pos (2 ^ 20)) (c 1 *ℤ one) (c 1 *ℤ pos u) ∙ ap (λ (z : ℤ). c 0 *ℤ pos (2 ^ 20) +ℤ z) (sym (distrib_pos (c 1) (s * u) u)))
      (sym (distrib_pos (c 2) (s * s * v) ((2 * s + 1) * v)))
      ∙ three-terms depth (s + 1) c _ _ (ap pos (omega (arith, add-mul s 1 u, one-mul u))) (ap pos next_square)

  pub next_growth : growth depth row s +ℤ bend depth row ≡ growth depth row (s + 1)
  next_growth =
      let c = coef row in
      let g = c 1 *ℤ pos u in
      let more : (2 * s + 1) * v + 2 * v ≡ (2 * (s + 1) + 1) * v = sym (add-mul (2 * s + 1) 2 v) ∙ ap (λ (n : ℕ). n * v) (omega arith) in
      +ℤ_assoc g (c 2 *ℤ pos ((2 * s + 1) * v)) (bend depth row)
      ∙ ap (λ (z : ℤ). g +ℤ z) (sym (distrib_pos (c 2) ((2 * s + 1) * v) (2 * v)) ∙ ap (λ (n : ℕ). c 2 *ℤ pos n) more)

-- ---- how large they are, for a sample or the number of codes
module _ {depth s : ℕ} {row : List ℤ} (r : RowRanges depth s row) where
  unit_le : 2 ^ (20 - depth) ≤ 2 ^ 22
  unit_le = omega (arith, pow_mono {i = 20 - depth} {j = 20} (omega arith))

  pub unit_fits : (20 - depth ≤ 20) × (1 * 2 ^ (20 - depth) ≤ 2 ^ 22)
  unit_fits = (omega arith, omega (arith, one-mul (2 ^ (20 - depth)), unit_le))

  pub two_fits : (20 - 2 * depth ≤ 20) × (2 * 2 ^ (20 - 2 * depth) ≤ 2 ^ 22)
  two_fits = (omega arith, omega (arith, pow_mono {i = 20 - 2 * depth} {j = 20} (omega arith)))

  -- 2 s + 1 is at most 3 x 2 ^ depth
  pub odd_fits : (20 - 2 * depth ≤ 20) × ((2 * s + 1) * 2 ^ (20 - 2 * depth) ≤ 2 ^ 22)
  odd_fits =
      let a : 2 * s + 1 ≤ 3 * 2 ^ depth = omega (arith, r.sample, pow_pos depth) in
      let b : 2 ^ (20 - 2 * depth) ≤ 2 ^ (20 - depth) = pow_mono (omega arith) in
      let e : depth + (20 - depth) ≡ 20 = omega (arith, r.shallow) in
      let whole : 2 ^ depth * 2 ^ (20 - depth) ≡ 2 ^ 20 = sym (pow-add 2 depth (20 - depth)) ∙ ap (λ (n : ℕ). 2 ^ n) e in
      (omega arith, le_trans (mul-le-mul a b) (omega (arith, mul_assoc 3 (2 ^ depth) (2 ^ (20 - depth)), whole)))

  pub growth_le : nat_abs (growth depth row s) ≤ 2 ^ 61
  growth_le =
      let g = coef row 1 *ℤ pos (2 ^ (20 - depth)) in
      let h = coef row 2 *ℤ pos ((2 * s + 1) * 2 ^ (20 - 2 * depth)) in
      let a : nat_abs g ≤ 2 ^ 38 * 2 ^ 22 = mul_in (coef row 1) (pos (2 ^ (20 - depth))) (r.coefficient 1) unit_le in
      let b : nat_abs h ≤ 2 ^ 38 * 2 ^ 22 = mul_in (coef row 2) (pos ((2 * s + 1) * 2 ^ (20 - 2 * depth))) (r.coefficient 2) odd_fits.1 in
      le_trans (add_in g h a b) (omega arith)

  pub bend_le : nat_abs (bend depth row) ≤ 2 ^ 61
  bend_le = le_trans (mul_in (coef row 2) (pos (2 * 2 ^ (20 - 2 * depth))) (r.coefficient 2) two_fits.1) (omega arith)

  pub sum_le : nat_abs (poly_sum depth s (coef row) 2) ≤ 2 ^ 61
  unfolding poly_sum
  sum_le =
      let t : ℕ → ℤ = λ i. coef row i *ℤ pos (weight depth s i) in
      let low : (i : ℕ) → i ≤ 2 → nat_abs (t i) ≤ 2 ^ 38 * 2 ^ 20 = λ i h. mul_in (coef row i) (pos (weight depth s i)) (r.coefficient i) (weight_le depth s i r.sample (le_trans (mul-le-mul h r.shallow) (omega arith))) in
      le_trans (add_in (t 0 +ℤ t 1) (t 2) (add_in (t 0) (t 1) (low 0 (omega arith)) (low 1 (omega arith))) (low 2 (omega arith))) (omega arith)
