-- What a test of i64 words says of the integers that they hold. Assumes nothing.
use mathlib.Core.Path.{◌≡◌, subst}
use mathlib.Core.Bool.{Bool, false, true≢false}
use native.Mathlib.Omega.{arith}
use lib.Dec.{T}
use lib.IntN.{ℤ, pos, negsuc, nat_abs}
use lib.Signed.{lt_z, non_neg}
use mir.Syntax.{w64}
use mir.Val.{SFits, Fits, to_z, of_z}
use mir.Facts.{to_z-of_z}

-- a test of a word against an integer
pub less : {z : ℤ} (y : ℤ) {t : Bool} → SFits w64 z → lt_z (to_z w64 (of_z w64 z)) y ≡ t → lt_z z y ≡ t
less y {t} f e = subst (λ (v : ℤ). lt_z v y ≡ t) (to_z-of_z f) e

-- the test z < 0 failed, and z is cast to a u64
pub cast_fits : (z : ℤ) → SFits w64 z → lt_z z (pos 0) ≡ false → T (non_neg z) × Fits w64 (nat_abs z)
cast_fits (pos n) f e = (tt, record { fits = omega (arith, f.sfits) })
cast_fits (negsuc n) f e = absurd (true≢false e)
