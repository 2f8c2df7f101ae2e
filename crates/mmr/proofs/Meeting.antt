-- The sum over a row's first terms is the standard's sum of the constant and of each order's seven coefficients. Assumes nothing.
use mathlib.Core.Path.{◌≡◌, refl, sym, ap, ap₂, ◌∙◌}
use Prim.Native.Nat.{ℕ, zero, suc, ◌+◌, ◌*◌, ◌<◌, ◌≤◌}
use native.Mathlib.Omega.{arith}
use lib.IntN.{ℤ, pos, ◌+ℤ◌, ◌*ℤ◌, +ℤ_idl, +ℤ_idr, zero-*ℤ}
use Rattle.standard.specs.Mmr.{cnt, inner_sum, mmr_sum}
use Rattle.mmr.specs.inner.Apart.{whole_sum}

-- equal terms have equal sums
pub sum_cong : (c : ℕ → ℤ) (t u : ℕ → ℕ) (k : ℕ) → ((i : ℕ) → i < k → t i ≡ u i) → whole_sum c t k ≡ whole_sum c u k
unfolding whole_sum
sum_cong c t u zero e = refl
sum_cong c t u (suc k) e = ap₂ (λ (a : ℤ) (n : ℕ). a +ℤ c k *ℤ pos n) (sum_cong c t u k (λ i h. e i (omega arith))) (e k (omega arith))

-- coefficients that are 0 add nothing
pub sum_zeros : (c : ℕ → ℤ) (t : ℕ → ℕ) (k m : ℕ) → ((i : ℕ) → k ≤ i → i < k + m → c i ≡ pos 0) → whole_sum c t (k + m) ≡ whole_sum c t k
unfolding whole_sum
sum_zeros c t k zero e = let z : k + 0 ≡ k = omega arith in ap (whole_sum c t) z
sum_zeros c t k (suc m) e =
    let z : k + suc m ≡ suc (k + m) = omega arith in
    ap (whole_sum c t) z
    ∙ ap (λ (w : ℤ). whole_sum c t (k + m) +ℤ w *ℤ pos (t (k + m))) (e (k + m) (omega arith) (omega arith))
    ∙ ap (λ (w : ℤ). whole_sum c t (k + m) +ℤ w) (zero-*ℤ (pos (t (k + m))))
    ∙ +ℤ_idr (whole_sum c t (k + m))
    ∙ sum_zeros c t k m (λ i a b. e i a (omega arith))

module _ (c : ℕ → ℤ) (t : ℕ → ℕ) where
  abbrev by_order : ℕ → ℕ → ℤ
  by_order i j = c (cnt i j)

  -- the inner loop of order i + 1 goes on where the sum over 7 i + 1 terms ended
  inner_is : (i : ℕ) (rr : ℤ) → rr ≡ whole_sum c t (7 * i + 1) → (j : ℕ) → inner_sum by_order t (suc i) rr j ≡ whole_sum c t (7 * i + 1 + j)
  unfolding inner_sum whole_sum
  inner_is i rr e zero = let z : 7 * i + 1 + 0 ≡ 7 * i + 1 = omega arith in e ∙ sym (ap (whole_sum c t) z)
  inner_is i rr e (suc j) =
      let k : cnt (suc i) j ≡ 7 * i + 1 + j = omega arith in
      let z : 7 * i + 1 + suc j ≡ suc (7 * i + 1 + j) = omega arith in
      ap₂ (λ (a : ℤ) (n : ℕ). a +ℤ c n *ℤ pos (t n)) (inner_is i rr e j) k ∙ sym (ap (whole_sum c t) z)

  constant_is : whole_sum c t 1 ≡ c 0 *ℤ pos (t 0)
  unfolding whole_sum
  constant_is = +ℤ_idl (c 0 *ℤ pos (t 0))

  pub mmr_sum_is : (order : ℕ) → mmr_sum (c 0) by_order t order ≡ whole_sum c t (7 * order + 1)
  unfolding mmr_sum
  mmr_sum_is zero = let z : 7 * 0 + 1 ≡ 1 = omega arith in sym (ap (whole_sum c t) z ∙ constant_is)
  mmr_sum_is (suc order) =
      let z : 7 * order + 1 + 7 ≡ 7 * suc order + 1 = omega arith in
      inner_is order (mmr_sum (c 0) by_order t order) (mmr_sum_is order) 7 ∙ ap (whole_sum c t) z
