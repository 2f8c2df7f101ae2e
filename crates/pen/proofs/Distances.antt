-- A number by its distance from 0, or below it from -1: its fraction adds upward. Assumes nothing.
use mathlib.Core.Path.{◌≡◌, sym, ap, ◌∙◌}
use Prim.Native.Nat.{ℕ, zero, suc, ◌+◌, ◌*◌, ◌-◌, ◌/◌, ◌%◌, ◌^◌, ◌≤◌, ◌<◌}
use native.Mathlib.Nat.{suc-mul, mod-lt}
use native.Mathlib.Omega.{arith}
use lib.IntN.{pos, negsuc, nat_abs, neg_ℤ, ◌-ℤ◌}
use lib.Pow.{pow_pos, split}
use borrow.Author.Tests.{le-ltb}
use Rattle.pen.specs.Bytes.{fraction_part}

above : (b r : ℕ) → nat_abs (pos (b + r) -ℤ pos b) ≡ r
above zero r = omega arith
above (suc b) r =
    let h : suc b ≤ suc b + r = omega arith in
    rw (le-ltb (suc b + r) (suc b) h) (omega arith)

below : (a n : ℕ) → a < n → nat_abs (negsuc a -ℤ neg_ℤ (pos n)) ≡ n - suc a
below a zero h = absurd (omega arith)
below a (suc n) h =
    let k : suc a ≤ suc n = omega arith in
    rw (le-ltb (suc n) (suc a) k)

module _ (d a : ℕ) where
  rest : a % 2 ^ d < 2 ^ d
  rest = mod-lt a (pow_pos d)

  pub fraction_above : a % 2 ^ d ≡ fraction_part d (pos a)
  fraction_above = sym (ap (λ (x : ℕ). nat_abs (pos x -ℤ pos (a / 2 ^ d * 2 ^ d))) (sym (split a d)) ∙ above (a / 2 ^ d * 2 ^ d) (a % 2 ^ d))

  pub fraction-below : 2 ^ d - 1 - a % 2 ^ d ≡ fraction_part d (negsuc a)
  fraction-below =
      let e = suc-mul (a / 2 ^ d) (2 ^ d) in
      let h : a < suc (a / 2 ^ d) * 2 ^ d = omega (arith, e, split a d, rest) in
      let k : 2 ^ d - 1 - a % 2 ^ d ≡ suc (a / 2 ^ d) * 2 ^ d - suc a = omega (arith, e, split a d, rest) in
      k ∙ sym (below a (suc (a / 2 ^ d) * 2 ^ d) h)
