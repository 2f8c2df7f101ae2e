-- A number with a fraction and its two parts, both ways. Assumes nothing.
use mathlib.Core.Path.{◌≡◌, refl, sym, ap, ◌∙◌}
use mathlib.Core.Bool.{Bool, true, false, ◌&&◌, ◌||◌, false≢true}
use mathlib.Core.Logic.{⊎_elim}
use Prim.Native.Nat.{ℕ, zero, suc, ◌+◌, ◌*◌, ◌-◌, ◌/◌, ◌%◌, ◌^◌, ◌≤◌, ◌<◌}
use native.Mathlib.Nat.{suc-mul, mod-lt, mod-eq_of_lt, div-lt_iff_lt-mul}
use native.Mathlib.Omega.{arith}
use lib.Dec.{leb, ltb}
use lib.IntN.{ℤ, pos, negsuc, neg_ℤ, ◌+ℤ◌}
use lib.Pow.{pow_pos, split, high, low}
use lib.Signed.{le_z, lt_z}
use borrow.Author.Tests.{leb-true, ltb-true, lt-ltb, le-leb}
use Rattle.standard.specs.Parameters.{fp}
use Rattle.plan.specs.declared.Header.{Header}
use Rattle.plan.specs.Ranges.{integer_limit, fraction_fits, coefficient_fits, unsigned_fits}
use Rattle.plan.proofs.Truths.{both}
use Rattle.fields.specs.Fields.{wide}
use Rattle.pen.specs.Bytes.{signed_number, integer_part, fraction_part}
use Rattle.pen.proofs.Distances.{fraction_above, fraction-below}
use Rattle.section_fields.specs.Fields.{integer_width, numbers, signed, integer_fits}
use Rattle.section_fields.proofs.Bytes.{limit_le, signed_above, signed_below, stands, integer_small}

-- a sum that stays negative
sum_below : (n f : ℕ) → f < n → neg_ℤ (pos n) +ℤ pos f ≡ negsuc (n - suc f)
sum_below zero f h = absurd (omega arith)
sum_below (suc n) f h = rw (lt-ltb f (suc n) h)

module _ (d f : ℕ) (small : f < 2 ^ d) where
  abbrev D : ℕ
  D = 2 ^ d

  -- made of its parts, of which the integer has w bytes
  abbrev Apart : ℕ → ℤ → ℕ → Type 0
  Apart w z n = (signed_number w (integer_part d z) ≡ n) × (fraction_part d z ≡ f)

  made_above : (w n : ℕ) → n < 256 ^ w → Apart w (pos (n * D + f)) n
  made_above w n h = (rw (high n d small) (mod-eq_of_lt h), sym (fraction_above d (n * D + f)) ∙ low n d small)

  made_below : (w m n : ℕ) → suc (m + n) ≡ 256 ^ w → Apart w (negsuc (suc m * D - suc f)) n
  made_below w m n e =
      let g : D - 1 - f < D = omega arith in
      let k : suc m * D - suc f ≡ m * D + (D - 1 - f) = omega (arith, suc-mul m D) in
      let t : m < 256 ^ w = omega arith in
      let r : D - 1 - (D - 1 - f) ≡ f = omega arith in
      rw k (
        rw (high m d g, mod-eq_of_lt t) (omega arith),
        sym (fraction-below d (m * D + (D - 1 - f))) ∙ rw (low m d g) r,
      )

  pub parted : (idc n : ℕ) → integer_fits idc n ≡ true → Apart (wide (integer_width idc)) (fp d (signed (integer_width idc) n) f) n
  parted idc n p =
      let w = wide (integer_width idc) in
      let m = 256 ^ w - suc n in
      let far : f < suc m * D = omega (arith, suc-mul m D) in
      ⊎_elim (λ s. rw s.1 (made_above w n (integer_small idc n p)))
      (λ s. rw (s.1.1, sum_below (suc m * D) f far) (made_below w m n (omega (arith, s.1.0))))
      (stands idc n p)

-- put together again
module _ (d : ℕ) where
  rest_small : (a : ℕ) → a % 2 ^ d < 2 ^ d
  rest_small a = mod-lt a (pow_pos d)

  whole_small : (a m : ℕ) → a < m * 2 ^ d → a / 2 ^ d < m
  whole_small a m h = (div-lt_iff_lt-mul (pow_pos d)).1 h

  module _ (idc : ℕ) where
    abbrev m : ℕ
    m = integer_limit idc

    abbrev top : ℕ
    top = numbers (integer_width idc)

    abbrev Together : ℤ → Type 0
    Together z =
        let n = signed_number (wide (integer_width idc)) (integer_part d z) in
        (integer_fits idc n ≡ true) × ((fraction_part d z < 2 ^ d) × (fp d (signed (integer_width idc) n) (fraction_part d z) ≡ z))

    together : (z : ℤ) → (le_z (neg_ℤ (pos (m * 2 ^ d))) z && lt_z z (pos (m * 2 ^ d))) ≡ true → Together z
    together (pos a) p =
        let k = whole_small a m (ltb-true a (m * 2 ^ d) (both (le_z (neg_ℤ (pos (m * 2 ^ d))) (pos a)) _ p).1) in
        let t : a / 2 ^ d < top = omega (arith, k, (limit_le idc).1.0) in
        let s : a / 2 ^ d < top / 2 = omega (arith, k, (limit_le idc).1.0) in
        rw (mod-eq_of_lt t, ← fraction_above d a, signed_above (integer_width idc) (a / 2 ^ d) s, lt-ltb (a / 2 ^ d) m k)
        (refl, (rest_small a, ap pos (split a d)))
    together (negsuc a) p =
        let k = whole_small a m (inside (m * 2 ^ d) p) in
        let q = a / 2 ^ d in
        let t : q < top = omega (arith, k, (limit_le idc).1.0) in
        let n = top - 1 - q in
        let lo : top - m ≤ n = omega (arith, k, (limit_le idc).1.0) in
        let hi : n ≤ top - 1 = omega arith in
        let half : top / 2 ≤ n = omega (arith, k, (limit_le idc).1.0) in
        let under : n < top = omega (arith, t) in
        let same : top - suc n ≡ q = omega (arith, t) in
        let r = rest_small a in
        let g : 2 ^ d - 1 - a % 2 ^ d < suc q * 2 ^ d = omega (arith, suc-mul q (2 ^ d)) in
        let e : suc q * 2 ^ d - suc (2 ^ d - 1 - a % 2 ^ d) ≡ a = omega (arith, suc-mul q (2 ^ d), split a d) in
        rw (mod-eq_of_lt t, ← fraction-below d a, signed_below (integer_width idc) n half under, same, sum_below (suc q * 2 ^ d) (2 ^ d - 1 - a % 2 ^ d) g, e)
        (either (ltb n m) (rw (le-leb (top - m) n lo, le-leb n (top - 1) hi)), (omega arith, refl))
      where
        inside : (top : ℕ) → (le_z (neg_ℤ (pos top)) (negsuc a) && lt_z (negsuc a) (pos top)) ≡ true → a < top
        inside zero p = absurd (false≢true p)
        inside (suc top) p = omega (arith, leb-true a top (both (leb a top) true p).0)

        either : (t : Bool) {u : Bool} → u ≡ true → (t || u) ≡ true
        either true e = refl
        either false e = e

pub coefficient_parts : (h : Header) (idc : ℕ) (z : ℤ) → coefficient_fits h idc z ≡ true
    → let n = signed_number (wide (integer_width idc)) (integer_part h.d z) in
    let f = fraction_part h.d z in
    (integer_fits idc n ≡ true) × ((fraction_fits h f ≡ true) × (fp h.d (signed (integer_width idc) n) f ≡ z))
coefficient_parts h idc z p = let t = together h.d idc z p in (t.0, (lt-ltb _ _ t.1.0, t.1.1))

-- ---- numbers whose integer part is 0 or 1
pub unsigned_parts : (h : Header) (v : ℕ) → unsigned_fits h v ≡ true → let n = signed_number 1 (integer_part h.d (pos v)) in let f = fraction_part h.d (pos v) in (leb n 1 ≡ true) × ((fraction_fits h f ≡ true) × (n * 2 ^ h.d + f ≡ v))
unsigned_parts h v p =
    let k : v / 2 ^ h.d < 2 = (div-lt_iff_lt-mul (pow_pos h.d)).1 (ltb-true v (2 * 2 ^ h.d) p) in
    let t : v / 2 ^ h.d < 256 = omega arith in
    let one : v / 2 ^ h.d ≤ 1 = omega arith in
    rw (mod-eq_of_lt t, ← fraction_above h.d v, le-leb (v / 2 ^ h.d) 1 one, lt-ltb (v % 2 ^ h.d) (2 ^ h.d) (rest_small h.d v)) (refl, (refl, split v h.d))

pub unsigned_parted : (h : Header) (n f : ℕ) → leb n 1 ≡ true → fraction_fits h f ≡ true → (signed_number 1 (integer_part h.d (pos (n * 2 ^ h.d + f))) ≡ n) × (fraction_part h.d (pos (n * 2 ^ h.d + f)) ≡ f)
unsigned_parted h n f p q = made_above h.d f (ltb-true f (2 ^ h.d) q) 1 n (omega (arith, leb-true n 1 p))
