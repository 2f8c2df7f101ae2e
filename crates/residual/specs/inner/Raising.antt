-- The reconstruction of an HDR sample (5.4.3.3) without a negative number: the residual is raised, added to the mapped sample, and the sum lowered and cut.
use Rattle.std.specs.Prelude.{ℕ, ◌+◌, ◌-◌, ◌*◌, ◌/◌, ◌^◌, min, ℤ, pos, ◌+ℤ◌}
use Rattle.standard.specs.Mapping.{from_zero}

-- the residual, which is not below -2 ^ 17, with the rounding term 1 << (15 - out_bit_depth) and 2 ^ 17 added
unfoldable pub raised : ℕ → ℤ → ℕ
raised out r = from_zero (r +ℤ pos (2 ^ 17 + 2 ^ (15 - out)))

-- the HDR sample of a sixteenth of the sum, in which 2 ^ 17 is 2 x 2 ^ out; a difference of natural numbers is never below 0
unfoldable pub lowered : ℕ → ℕ → ℕ
lowered out k = min (k / 2 ^ (12 - out) - 2 * 2 ^ out) (2 ^ out - 1)
