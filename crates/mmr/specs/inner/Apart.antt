-- What the code sums in the place of the standard's sum: integer parts and fractions apart, so that 64 bits hold them.
use Rattle.std.specs.Prelude.{List, ℕ, zero, suc, ◌+◌, ◌-◌, ◌*◌, ◌%◌, ◌^◌, ◌≤◌, ℤ, pos, negsuc, nat_abs, ◌+ℤ◌, ◌*ℤ◌, get_or}

-- coefficient i of a row
abbrev pub coef : List ℤ → ℕ → ℤ
coef row i = get_or row i (pos 0)

-- what z has above the multiple of m that is its floor times m
abbrev pub fraction : ℤ → ℕ → ℕ
fraction (pos a) m = a % m
fraction (negsuc a) m = m - suc (a % m)

-- the sums over the first k terms
unfoldable pub whole_sum : (ℕ → ℤ) → (ℕ → ℕ) → ℕ → ℤ
whole_sum w t zero = pos 0
whole_sum w t (suc k) = whole_sum w t k +ℤ w k *ℤ pos (t k)

unfoldable pub part_sum : (ℕ → ℕ) → (ℕ → ℕ) → ℕ → ℕ
part_sum p t zero = 0
part_sum p t (suc k) = part_sum p t k + p k * t k

-- so many terms of a row whose coefficients have at most so large an absolute value
pub record SumGiven (most count : ℕ) (row : List ℤ) : Type 0 where
  pub few : count ≤ 22
  pub coefficient : (i : ℕ) → nat_abs (coef row i) ≤ most

-- an absolute value of which one product a term is enough: 22 x 2 ^ 38 x 2 ^ 20 is less than 2 ^ 63
abbrev pub narrow_most : ℕ
narrow_most = 2 ^ 38

-- the greatest one: 65,536.0
abbrev pub wide_most : ℕ → ℕ
wide_most d = 65536 * 2 ^ d
