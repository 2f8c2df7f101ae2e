-- An integer part in its range: what its bytes stand for, and how large it is. Assumes nothing.
use mathlib.Core.Path.{◌≡◌, refl}
use mathlib.Core.Bool.{Bool, true, false, cond, ◌||◌}
use mathlib.Core.Logic.{◌⊎◌, inl, inr, ⊎_elim}
use Prim.Native.Nat.{ℕ, zero, suc, ◌+◌, ◌-◌, ◌/◌, ◌^◌, ◌≤◌, ◌<◌}
use native.Mathlib.Omega.{arith}
use lib.Dec.{eqb, ltb}
use lib.IntN.{pos, negsuc, nat_abs, ◌-ℤ◌}
use borrow.Author.Tests.{ltb-true, lt-ltb, le-ltb}
use Rattle.plan.specs.Ranges.{within, integer_limit}
use Rattle.plan.proofs.Truths.{inside}
use Rattle.fields.specs.declared.Width.{Width}
use Rattle.fields.specs.declared.Width.TheVariants.{One, Four}
use Rattle.section_fields.specs.Fields.{integer_width, numbers, signed, integer_fits}

-- of the numbers of an integer part's width at most half are in its range on either side
pub limit_le : (idc : ℕ) → (1 ≤ integer_limit idc) × ((integer_limit idc ≤ numbers (integer_width idc) / 2) × (integer_limit idc ≤ 65536))
limit_le idc = go (eqb idc 1)
  where
    go : (t : Bool) → (1 ≤ cond t 65536 64) × ((cond t 65536 64 ≤ numbers (cond t Four One) / 2) × (cond t 65536 64 ≤ 65536))
    go true = (omega arith, (omega arith, omega arith))
    go false = (omega arith, (omega arith, omega arith))

pub numbers_le : (idc : ℕ) → numbers (integer_width idc) ≤ 2 ^ 32
numbers_le idc = go (eqb idc 1)
  where
    go : (t : Bool) → numbers (cond t Four One) ≤ 2 ^ 32
    go true = omega arith
    go false = omega arith

-- a difference that is negative
below_zero : (v top : ℕ) → v < top → pos v -ℤ pos top ≡ negsuc (top - suc v)
below_zero v zero h = absurd (omega arith)
below_zero v (suc top) h = rw (lt-ltb v (suc top) h)

pub signed_above : (w : Width) (v : ℕ) → v < numbers w / 2 → signed w v ≡ pos v
signed_above w v h = rw (lt-ltb v (numbers w / 2) h)

pub signed_below : (w : Width) (v : ℕ) → numbers w / 2 ≤ v → v < numbers w → signed w v ≡ negsuc (numbers w - suc v)
signed_below w v h k = rw (le-ltb v (numbers w / 2) h) (below_zero v (numbers w) k)

-- an integer part stands for itself, or for a negative number
abbrev pub Stands : ℕ → ℕ → Type 0
Stands idc v =
    let m = integer_limit idc in
    let top = numbers (integer_width idc) in
    let z = signed (integer_width idc) v in
    ((v < m) × (z ≡ pos v)) ⊎ ((top ≤ v + m) × ((v < top) × (z ≡ negsuc (top - suc v))))

pub stands : (idc v : ℕ) → integer_fits idc v ≡ true → Stands idc v
stands idc v e = go (ltb v (integer_limit idc)) refl e
  where
    go : (t : Bool) → ltb v (integer_limit idc) ≡ t → (t || within (numbers (integer_width idc) - integer_limit idc) (numbers (integer_width idc) - 1) v) ≡ true → Stands idc v
    go true e p =
        let h = ltb-true v (integer_limit idc) e in
        let l : v < numbers (integer_width idc) / 2 = omega (arith, h, (limit_le idc).1.0) in
        inl (h, signed_above (integer_width idc) v l)
    go false e p =
        let b = inside (numbers (integer_width idc) - integer_limit idc) (numbers (integer_width idc) - 1) v p in
        let l : numbers (integer_width idc) / 2 ≤ v = omega (arith, b.0, (limit_le idc).1.0) in
        let k : v < numbers (integer_width idc) = omega (arith, b.1, (limit_le idc).0, (limit_le idc).1.0) in
        inr (omega (arith, b.0), (k, signed_below (integer_width idc) v l k))

module _ (idc v : ℕ) (e : integer_fits idc v ≡ true) where
  pub integer_small : v < numbers (integer_width idc)
  integer_small = ⊎_elim (λ s. omega (arith, s.0, (limit_le idc).1.0)) (λ s. s.1.0) (stands idc v e)

  pub signed_le : nat_abs (signed (integer_width idc) v) ≤ 65536
  signed_le = ⊎_elim (λ s. rw s.1 (omega (arith, s.0, (limit_le idc).1.1))) (λ s. rw s.1.1 (omega (arith, s.0, (limit_le idc).1.1))) (stands idc v e)

pub zero_fits : (idc : ℕ) → integer_fits idc 0 ≡ true
zero_fits idc = rw (lt-ltb 0 (integer_limit idc) (limit_le idc).0)
