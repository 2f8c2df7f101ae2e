-- The inverse quantization of one enhancement layer sample (5.4.3.2) and the reconstruction of one HDR sample (5.4.3.3), line by line
-- as the pseudo-code has them.
use Rattle.std.specs.Prelude.{cond, ℕ, zero, suc, ◌+◌, ◌-◌, ◌^◌, min, ℤ, pos, negsuc, neg_ℤ, ◌+ℤ◌, ◌-ℤ◌, ◌*ℤ◌}
use Rattle.std.specs.Int.Signed.{lt_z, shr_z}
use Rattle.standard.specs.Parameters.{Quantization}
use Rattle.standard.specs.Mapping.{from_zero}

-- 3.2.2: x << y, and x >> y, which rounds down
infixl 5 ◌<<◌
abbrev pub ◌<<◌ : ℤ → ℕ → ℤ
x << y = x *ℤ pos (2 ^ y)

infixl 5 ◌>>◌
abbrev pub ◌>>◌ : ℤ → ℕ → ℤ
x >> y = shr_z x (2 ^ y)

-- sign = rr < 0 ? -1 : 1
abbrev pub sign_of : ℤ → ℤ
sign_of (pos n) = pos 1
sign_of (negsuc n) = negsuc 0

-- rr <<= 1; rr -= sign; rr <<= (10 - EL_bit_depth); dq = rr * S; TT = (T << (10 - EL_bit_depth + 1)) * sign; dq += TT
abbrev pub scaled : ℕ → ℕ → ℕ → ℤ → ℤ → ℤ
scaled el S T rr sign = (((rr << 1) -ℤ sign) << (10 - el)) *ℤ pos S +ℤ (pos T << (10 - el + 1)) *ℤ sign

-- RR = R << (10 - EL_bit_depth + 1)
abbrev pub limit : ℕ → ℕ → ℤ
limit el R = pos R << (10 - el + 1)

-- if (dq > RR) dq = RR; else if (dq < -RR) dq = -RR
abbrev pub limited : ℤ → ℤ → ℤ
limited RR dq = cond (lt_z RR dq) RR (cond (lt_z dq (neg_ℤ RR)) (neg_ℤ RR) dq)

-- the branch for rr != 0; r = dq >> (coefficient_log2_denom - 5 - EL_bit_depth)
abbrev pub dequantized : ℕ → ℕ → Quantization → ℤ → ℤ
dequantized el d q rr =
    limited (limit el q.fp_hdr_in_max) (scaled el q.fp_linear_deadzone_slope q.fp_linear_deadzone_threshold rr (sign_of rr))
    >> (d - 5 - el)

-- rr == 0 gives 0
abbrev pub unless_zero : ℕ → ℕ → Quantization → ℤ → ℤ
unless_zero el d q (pos zero) = pos 0
unless_zero el d q (pos (suc n)) = dequantized el d q (pos (suc n))
unless_zero el d q (negsuc n) = dequantized el d q (negsuc n)

-- 5.4.3.2: the residual r of an enhancement sample e, with rr = e - nlq_offset, EL_bit_depth and coefficient_log2_denom
unfoldable pub residual : ℕ → ℕ → Quantization → ℕ → ℤ
residual el d q e = unless_zero el d q (pos e -ℤ pos q.nlq_offset)

-- 5.4.3.3: h = v + r + (1 << (15 - out_bit_depth)); h >>= (16 - out_bit_depth); h is cut to 0 .. (1 << out_bit_depth) - 1
unfoldable pub reconstructed : ℕ → ℕ → ℤ → ℕ
reconstructed out v r = min (from_zero ((pos v +ℤ r +ℤ pos (2 ^ (15 - out))) >> (16 - out))) (2 ^ out - 1)
