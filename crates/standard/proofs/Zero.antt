-- A negative number becomes 0, by the test of its sign. Assumes nothing.
use mathlib.Core.Path.{◌≡◌, refl, sym, ◌∙◌}
use mathlib.Core.Bool.{true, false, true≢false}
use native.Mathlib.Omega.{arith}
use lib.IntN.{ℤ, pos, negsuc, nat_abs}
use lib.Signed.{lt_z}
use borrow.Author.Tests.{le-ltb}
use Rattle.standard.specs.Mapping.{from_zero}

pub below_zero : (z : ℤ) → lt_z z (pos 0) ≡ true → from_zero z ≡ 0
below_zero (pos n) e = absurd (true≢false (sym e ∙ le-ltb n 0 (omega arith)))
below_zero (negsuc n) e = refl

pub not_below_zero : (z : ℤ) → lt_z z (pos 0) ≡ false → from_zero z ≡ nat_abs z
not_below_zero (pos n) e = refl
not_below_zero (negsuc n) e = absurd (true≢false e)
