-- An integer part and a fraction in their ranges make a number in its range. Assumes nothing.
use mathlib.Core.Path.{◌≡◌, refl}
use mathlib.Core.Bool.{true, ◌&&◌}
use mathlib.Core.Logic.{⊎_elim}
use Prim.Native.Nat.{ℕ, zero, suc, ◌+◌, ◌*◌, ◌-◌, ◌^◌, ◌≤◌, ◌<◌}
use native.Mathlib.Nat.{mul-le-mul_right}
use native.Mathlib.Omega.{arith}
use lib.Dec.{leb, leb-zero}
use lib.IntN.{ℤ, pos, negsuc, neg_ℤ, ◌+ℤ◌, ◌*ℤ◌}
use lib.Signed.{le_z, lt_z}
use borrow.Author.Tests.{leb-true, ltb-true, lt-ltb, le-leb}
use Rattle.standard.specs.Parameters.{fp}
use Rattle.plan.specs.declared.Header.{Header}
use Rattle.plan.specs.Ranges.{integer_limit, coefficient_fits, unsigned_fits, fraction_fits}
use Rattle.section_fields.specs.Fields.{integer_width, numbers, signed, integer_fits}
use Rattle.section_fields.proofs.Bytes.{stands}

pub unsigned_in : (h : Header) (i f : ℕ) → leb i 1 ≡ true → fraction_fits h f ≡ true → unsigned_fits h (i * 2 ^ h.d + f) ≡ true
unsigned_in h i f p q =
    let l : i * 2 ^ h.d + f < 2 * 2 ^ h.d = omega (arith, mul-le-mul_right (2 ^ h.d) (leb-true i 1 p), ltb-true f _ q) in
    lt-ltb _ _ l

above_top : (top x : ℕ) → le_z (neg_ℤ (pos top)) (pos x) ≡ true
above_top zero x = leb-zero x
above_top (suc top) x = refl

abbrev Inside : ℕ → ℤ → Type 0
Inside top z = (le_z (neg_ℤ (pos top)) z && lt_z z (pos top)) ≡ true

-- a sum that stays negative
negative : (top n f : ℕ) → f < n → n ≤ top → Inside top (neg_ℤ (pos n) +ℤ pos f)
negative top zero f h l = absurd (omega arith)
negative zero (suc n) f h l = absurd (omega arith)
negative (suc top) (suc n) f h l =
    let k : suc n - suc f ≤ top = omega arith in
    rw (lt-ltb f (suc n) h, le-leb _ _ k)

module _ (m D f : ℕ) (small : f < D) where
  above : (i : ℕ) → i < m → Inside (m * D) (pos i *ℤ pos D +ℤ pos f)
  above i h =
      let l : i * D + f < m * D = omega (arith, mul-le-mul_right D h) in
      rw (above_top (m * D) (i * D + f), lt-ltb _ _ l)

  below : (i : ℕ) → i < m → Inside (m * D) (negsuc i *ℤ pos D +ℤ pos f)
  below i h =
      let one : 1 ≤ suc i = omega arith in
      negative (m * D) (suc i * D) f (omega (arith, mul-le-mul_right D one)) (mul-le-mul_right D h)

pub coefficient_in : (h : Header) (idc i f : ℕ) → integer_fits idc i ≡ true → fraction_fits h f ≡ true → coefficient_fits h idc (fp h.d (signed (integer_width idc) i) f) ≡ true
coefficient_in h idc i f p q =
    let small = ltb-true f _ q in
    ⊎_elim (λ s. rw s.1 (above (integer_limit idc) (2 ^ h.d) f small i s.0))
    (λ s. rw s.1.1 (below (integer_limit idc) (2 ^ h.d) f small (numbers (integer_width idc) - suc i) (omega (arith, s.0, s.1.0))))
    (stands idc i p)
