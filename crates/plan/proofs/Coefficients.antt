-- What the tests of a row say of its coefficients. Assumes nothing.
use mathlib.Core.Path.{◌≡◌, ap}
use mathlib.Core.Bool.{Bool, true, false, ◌&&◌, cond, false≢true}
use mathlib.Core.List.{List}
use Prim.Native.Nat.{ℕ, zero, suc, ◌*◌, ◌^◌, ◌≤◌, ◌<◌}
use native.Mathlib.Omega.{arith}
use lib.Dec.{leb, ltb}
use lib.IntN.{ℤ, pos, negsuc, nat_abs, neg_ℤ}
use lib.ListN.{get_or}
use lib.Signed.{le_z, lt_z}
use borrow.Author.Tests.{eqb-true, leb-true, ltb-true, le-ltb}
use Rattle.plan.specs.declared.Header.{Header}
use Rattle.plan.specs.Ranges.{integer_limit, coefficient_fits}
use Rattle.plan.specs.Rule7.{row_places, is_zero, row_fits}
use Rattle.plan.proofs.Truths.{both, every-at}

within_top : (n : ℕ) (z : ℤ) → (le_z (neg_ℤ (pos n)) z && lt_z z (pos n)) ≡ true → nat_abs z ≤ n
within_top n (pos m) e = omega (arith, ltb-true m n (both (le_z (neg_ℤ (pos n)) (pos m)) (ltb m n) e).1)
within_top zero (negsuc m) e = absurd (false≢true e)
within_top (suc n) (negsuc m) e = omega (arith, leb-true m n (both (leb m n) true e).0)

pub zero_abs : (z : ℤ) → nat_abs z ≡ 0 → z ≡ pos 0
zero_abs (pos n) e = ap pos e
zero_abs (negsuc n) e = absurd (omega arith)

module _ (h : Header) (idc : ℕ) where
  place_le : (used : Bool) (z : ℤ) → cond used (coefficient_fits h idc z) (is_zero z) ≡ true → nat_abs z ≤ integer_limit idc * 2 ^ h.d
  place_le true z e = within_top (integer_limit idc * 2 ^ h.d) z e
  place_le false z e = omega (arith, eqb-true (nat_abs z) 0 e)

  pub row_le : (k : ℕ) (row : List ℤ) → row_fits h idc k row ≡ true → (i : ℕ) → i < row_places → nat_abs (get_or row i (pos 0)) ≤ integer_limit idc * 2 ^ h.d
  unfolding row_fits
  row_le k row e i b = place_le (ltb i k) (get_or row i (pos 0)) (every-at _ row_places e i b)

  -- a coefficient that is not used is 0
  pub row_zero : (k : ℕ) (row : List ℤ) → row_fits h idc k row ≡ true → (i : ℕ) → k ≤ i → i < row_places → get_or row i (pos 0) ≡ pos 0
  unfolding row_fits
  row_zero k row e i b l = zero_abs _ (eqb-true _ 0 (rw (le-ltb i k b) at (every-at _ row_places e i l)))
