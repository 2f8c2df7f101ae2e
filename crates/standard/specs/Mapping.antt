-- The mapping of one base layer sample: clauses 5.3.2 (pivots), 5.4.2.2 (the piece) and 5.4.2.3.2 (the polynomial).
use Rattle.std.specs.Prelude.{cond, ℕ, zero, suc, ◌+◌, ◌-◌, ◌*◌, ◌/◌, ◌^◌, min, max, ltb, ℤ, pos, negsuc, ◌+ℤ◌, ◌*ℤ◌}
use Rattle.standard.specs.Parameters.{Mapping}

-- 5.3.2, Assign_pivot_values: pivot_value[i] is the sum of pred_pivot_value[0] to pred_pivot_value[i]
unfoldable pub pivot_value : (ℕ → ℕ) → ℕ → ℕ
pivot_value pred zero = pred 0
pivot_value pred (suc i) = pivot_value pred i + pred (suc i)

-- 5.4.2.2, the loop: of the k indices from idx on the first whose next pivot is greater than s; idx + k where there is none
unfoldable pub first_above : (ℕ → ℕ) → ℕ → ℕ → ℕ → ℕ
first_above pivot s idx zero = idx
first_above pivot s idx (suc k) =
    let later = first_above pivot s (idx + 1) k in
    cond (ltb s (pivot (idx + 1))) idx later

-- 5.4.2.2: pivot_idx, the piece of a sample s that is not clamped yet, among n + 2 pivots; n + 1 where no pivot is greater
unfoldable pub pivot_idx : (ℕ → ℕ) → ℕ → ℕ → ℕ
pivot_idx pivot n s = first_above pivot s 0 (n + 1)

-- 5.4.2.3.2: s is raised to the first pivot, then lowered to the last
abbrev pub clamped : ℕ → ℕ → ℕ → ℕ
clamped first last s = min (max s first) last

-- 5.4.2.3.2: what coefficient i is multiplied by, ss << shift at turn i
abbrev pub weight : ℕ → ℕ → ℕ → ℕ
weight depth s i = s ^ i * 2 ^ (20 - i * depth)

-- 5.4.2.3.2, the loop: vv after the turns 0 to i
unfoldable pub poly_sum : ℕ → ℕ → (ℕ → ℤ) → ℕ → ℤ
poly_sum depth s coef zero = coef 0 *ℤ pos (weight depth s 0)
poly_sum depth s coef (suc i) = poly_sum depth s coef i +ℤ coef (suc i) *ℤ pos (weight depth s (suc i))

-- a negative number becomes 0
abbrev pub from_zero : ℤ → ℕ
from_zero (pos n) = n
from_zero (negsuc n) = 0

-- 5.4.2.3.2: vv is not below 0, is shifted right by 4 + coefficient_log2_denom, and is cut at 0xffff
abbrev pub cut : ℕ → ℤ → ℕ
cut d vv = min (from_zero vv / 2 ^ (4 + d)) 65535

-- 5.4.2.3.2: the polynomial of one piece, of the given poly_order_minus1, at a clamped sample
unfoldable pub polynomial : ℕ → ℕ → (ℕ → ℤ) → ℕ → ℕ → ℕ
polynomial depth d coef order-minus1 s = cut d (poly_sum depth s coef (order-minus1 + 1))

-- 5.4.2: the mapped sample v of a base sample s, with BL_bit_depth and coefficient_log2_denom; the piece goes by s before it is clamped
unfoldable pub mapped : ℕ → ℕ → Mapping → ℕ → ℕ
mapped depth d m s =
    let pivot = pivot_value m.pred_pivot_value in
    let n = m.num_pivots_minus2 in
    let p = pivot_idx pivot n s in
    polynomial depth d (m.fp_poly_coef p) (m.poly_order_minus1 p) (clamped (pivot 0) (pivot (n + 1)) s)
