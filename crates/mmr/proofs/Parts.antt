-- The machine words of a coefficient and its parts, and how large the parts are. Assumes nothing.
use mathlib.Core.Path.{◌≡◌, ap, ◌∙◌}
use mathlib.Core.List.{List}
use Prim.Native.Nat.{ℕ, ◌*◌, ◌%◌, ◌^◌, ◌≤◌}
use native.Mathlib.Nat.{le_trans, le_of_lt, lt_of_lt_of_le, mul-le-mul_left, mod-eq_of_lt, one-mul}
use native.Mathlib.Omega.{arith}
use lib.Pow.{pow_pos, pow_mono}
use lib.IntN.{ℤ, pos, nat_abs, ◌-ℤ◌, ◌*ℤ◌}
use lib.Signed.{shr_z}
use mir.Syntax.{w64}
use mir.Val.{to_z, of_z}
use Rattle.words.proofs.Holding.{Holds, bounded, number, shr, sub, mul}
use Rattle.mmr.specs.inner.Apart.{coef, fraction}
use Rattle.mmr.proofs.Ring.{fraction_lt, left_over}
use Rattle.mmr.proofs.Sizes.{whole_le}

-- the integer parts of a row's coefficients, and their fractions
abbrev pub wholes : ℕ → List ℤ → ℕ → ℤ
wholes d row i = shr_z (coef row i) (2 ^ d)

abbrev pub parts : ℕ → List ℤ → ℕ → ℕ
parts d row i = fraction (coef row i) (2 ^ d)

module _ (d : ℕ) (h : d ≤ 32) where
  exact : (1 * 2 ^ d) % 2 ^ 64 ≡ 2 ^ d
  exact = mod-eq_of_lt (omega (arith, pow_mono {j = 32} h)) ∙ one-mul (2 ^ d)

  pub unit : Holds ((1 * 2 ^ d) % 2 ^ 64) (pos (2 ^ d)) (2 ^ 32)
  unit = record { is = (number {a = 2 ^ 32} (omega (arith, exact, pow_mono {j = 32} h)) tt).is ∙ ap pos exact; le = pow_mono h }

  pub part_low : (z : ℤ) → fraction z (2 ^ d) ≤ 2 ^ 32
  part_low z = le_of_lt (lt_of_lt_of_le (fraction_lt (2 ^ d) (pow_pos d) z) (pow_mono h))

  module _ (z : ℤ) (small : nat_abs z ≤ 65536 * 2 ^ d) where
    pub coefficient : Holds (of_z w64 z) z (65536 * 2 ^ 32)
    coefficient = bounded (le_trans small (mul-le-mul_left 65536 (pow_mono h))) tt

    pub whole : Holds (of_z w64 (shr_z (to_z w64 (of_z w64 z)) (2 ^ d))) (shr_z z (2 ^ d)) 65536
    whole = record { is = (shr (2 ^ d) coefficient tt).is; le = whole_le z (2 ^ d) 65536 (pow_pos d) small }

    pub part : to_z w64 (of_z w64 (to_z w64 (of_z w64 z) -ℤ to_z w64 (of_z w64 (to_z w64 (of_z w64 (shr_z (to_z w64 (of_z w64 z)) (2 ^ d))) *ℤ to_z w64 ((1 * 2 ^ d) % 2 ^ 64))))) ≡ pos (fraction z (2 ^ d))
    part = (sub coefficient (mul whole unit tt) tt).is ∙ left_over (2 ^ d) (pow_pos d) z
