-- The parameters of clause 5.3 that the composing process reads, under the standard's names, over unbounded numbers.
use Rattle.std.specs.Prelude.{ℕ, ◌^◌, ℤ, pos, ◌+ℤ◌, ◌*ℤ◌}

-- 5.3.3.3: one piece of MMR; coefficient [i][j] has i from 1 to the order and j from 0 to 6
pub record Mmr : Type 0 where
  pub mmr_order_minus1 : ℕ
  pub fp_mmr_constant : ℤ
  pub fp_mmr_coef : ℕ → ℕ → ℤ

-- 5.3.2, 5.3.3: how one component is mapped; pieces are counted from 0, and so are a polynomial's coefficients
pub record Mapping : Type 0 where
  pub num_pivots_minus2 : ℕ
  pub pred_pivot_value : ℕ → ℕ
  pub mapping_idc : ℕ → ℕ
  pub poly_order_minus1 : ℕ → ℕ
  pub fp_poly_coef : ℕ → ℕ → ℤ
  pub mmr : ℕ → Mmr

-- 5.3.4: how one component's residual is inverse quantized
pub record Quantization : Type 0 where
  pub nlq_offset : ℕ
  pub fp_hdr_in_max : ℕ
  pub fp_linear_deadzone_slope : ℕ
  pub fp_linear_deadzone_threshold : ℕ

-- 5.3.3.2: (integer << coefficient_log2_denom) + fraction; the fraction adds upward, also to a negative integer
abbrev pub fp : ℕ → ℤ → ℕ → ℤ
fp d integer fraction = integer *ℤ pos (2 ^ d) +ℤ pos fraction
