-- The limits of a coefficient, as words that hold them: nothing is shifted out. Assumes nothing.
use mathlib.Core.Path.{◌≡◌}
use mathlib.Core.Bool.{◌&&◌}
use Prim.Native.Nat.{ℕ, ◌*◌, ◌%◌, ◌^◌, ◌≤◌}
use native.Mathlib.Nat.{mod-eq_of_lt, mul-le-mul}
use native.Mathlib.Omega.{arith}
use lib.IntN.{ℤ, pos, neg_ℤ, ◌-ℤ◌, +ℤ_idl}
use lib.Pow.{pow_mono}
use lib.Signed.{le_z, lt_z}
use mir.Facts.{to_z-of_z}
use mir.Syntax.{w64}
use mir.Val.{SFits, to_z, of_z}
use Rattle.words.proofs.Holding.{Holds, number, literal, sub}

module _ (m d : ℕ) (few : m ≤ 65536) (shallow : d ≤ 32) where
  small : m * 2 ^ d ≤ 65536 * 2 ^ 32
  small = mul-le-mul few (pow_mono shallow)

  cut : m * 2 ^ d % 18446744073709551616 ≡ m * 2 ^ d
  cut = mod-eq_of_lt (omega (arith, small))

  top : Holds (m * 2 ^ d) (pos (m * 2 ^ d)) (65536 * 2 ^ 32)
  top = number small tt

  pub tested : (z : ℤ) → SFits w64 z → (le_z (to_z w64 (of_z w64 (pos 0 -ℤ to_z w64 (m * 2 ^ d % 18446744073709551616)))) (to_z w64 (of_z w64 z)) && lt_z (to_z w64 (of_z w64 z)) (to_z w64 (m * 2 ^ d % 18446744073709551616))) ≡ (le_z (neg_ℤ (pos (m * 2 ^ d))) z && lt_z z (pos (m * 2 ^ d)))
  tested z f = rw (cut, (sub (literal 0 tt) top tt).is, top.is, to_z-of_z f, +ℤ_idl)
