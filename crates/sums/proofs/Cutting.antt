-- A sixteenth of a sum that is shifted up first, and samples cut out of sums in 32 bits. Assumes nothing.
use mathlib.Core.Path.{◌≡◌, sym, ap, ◌∙◌}
use Prim.Native.Nat.{ℕ, ◌+◌, ◌*◌, ◌/◌, ◌%◌, ◌^◌, ◌<◌}
use native.Mathlib.Nat.{div-le_self, div-div-eq-div-mul}
use native.Mathlib.Omega.{arith}
use lib.Pow.{pow-add}
use Rattle.sums.specs.declared.Cut.{Cut}
use Rattle.sums.specs.inner.Sums.{sixteenth, lower_by}

-- what is shifted out at the top is what the sixteenth leaves out
pub shifted_is : (shift sum : ℕ) → sum * 2 ^ 13 % 2 ^ 32 / 2 ^ (17 + shift) ≡ sixteenth sum / 2 ^ shift
shifted_is shift sum =
    let e : sum * 2 ^ 13 % 2 ^ 32 / 2 ^ 17 ≡ sixteenth sum = omega arith in
    ap (λ (n : ℕ). sum * 2 ^ 13 % 2 ^ 32 / n) (pow-add 2 17 shift)
    ∙ sym (div-div-eq-div-mul (sum * 2 ^ 13 % 2 ^ 32) (2 ^ 17) (2 ^ shift))
    ∙ ap (λ (n : ℕ). n / 2 ^ shift) e

pub shifted_less : (shift sum : ℕ) → sum * 2 ^ 13 % 2 ^ 32 / 2 ^ (17 + shift) < 65536
shifted_less shift sum = omega (arith, shifted_is shift sum, div-le_self (sixteenth sum) (2 ^ shift))

-- 32 bits of a sum are enough
pub cut_in_32 : (c : Cut) (sum : ℕ) → lower_by c (sixteenth (sum % 2 ^ 32)) ≡ lower_by c (sixteenth sum)
cut_in_32 c sum = let e : sixteenth (sum % 2 ^ 32) ≡ sixteenth sum = omega arith in ap (lower_by c) e
