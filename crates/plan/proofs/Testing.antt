-- Signed words: the test against 0, and what is read back from one. Assumes nothing.
use mathlib.Core.Path.{◌≡◌, refl, sym, ◌∙◌}
use Prim.Native.Nat.{suc, ◌-◌, ◌^◌, ◌<◌}
use native.Mathlib.Omega.{arith}
use lib.Dec.{eqb, eqb-suc-zero}
use lib.IntN.{ℤ, pos, negsuc, nat_abs}
use lib.Signed.{mag}
use mir.Facts.{to_z-of_z}
use mir.Syntax.{w64}
use mir.Val.{SFits, to_z, of_z}
use borrow.Author.Tests.{ne_eqb}

-- a word is 0 where the integer that it holds is
pub zero_test : (z : ℤ) → SFits w64 z → eqb (of_z w64 z) 0 ≡ eqb (nat_abs z) 0
zero_test (pos n) f = refl
zero_test (negsuc n) f =
    let small : n < 2 ^ 63 = f.sfits in
    ne_eqb (2 ^ 64 - suc n) 0 (λ e. omega arith) ∙ sym (eqb-suc-zero n)

-- a word that was read from an array holds the integer that stands there
pub back : {z : ℤ} → mag z < 2 ^ 63 → to_z w64 (of_z w64 z) ≡ z
back h = to_z-of_z {w = w64} (record { sfits = h })
