-- The worked examples: E1 to E14 of the house rules as one statement about `mapped`, samples round the last pivot, and residuals worked by
-- hand.
use Rattle.std.specs.Prelude.{◌≡◌, List, [], ◌∷◌, ℕ, ℤ, pos, neg_ℤ, get_or}
use Rattle.standard.specs.Parameters.{Mmr, Mapping, Quantization, fp}
use Rattle.standard.specs.Mapping.{mapped}
use Rattle.standard.specs.Residual.{residual, reconstructed}

-- what a polynomial piece has of MMR
abbrev pub no_mmr : Mmr
no_mmr = record { mmr_order_minus1 = 0; fp_mmr_constant = pos 0; fp_mmr_coef = λ i j. pos 0 }

-- polynomial pieces given by their coefficients, from pred_pivot_value's list; every piece has the same order
abbrev pub pieces : List ℕ → ℕ → ℕ → List (List ℤ) → Mapping
pieces preds n order rows = record { num_pivots_minus2 = n; pred_pivot_value = λ i. get_or preds i 0; mapping_idc = λ p. 0; poly_order_minus1 = λ p. order; fp_poly_coef = λ p i. get_or (get_or rows p []) i (pos 0); mmr = λ p. no_mmr }

-- one piece over the pivots 0 and 1023, of order 1 or 2: like every plan of E1 to E14 it holds its last piece twice
abbrev pub line : ℤ → ℤ → Mapping
line c0 c1 = pieces (0 ∷ 1023 ∷ []) 0 0 ((c0 ∷ c1 ∷ []) ∷ (c0 ∷ c1 ∷ []) ∷ [])

abbrev pub curve : ℤ → ℤ → ℤ → Mapping
curve c0 c1 c2 = pieces (0 ∷ 1023 ∷ []) 0 1 ((c0 ∷ c1 ∷ c2 ∷ []) ∷ (c0 ∷ c1 ∷ c2 ∷ []) ∷ [])

-- "linear": coefficients 0 and 1.0
abbrev pub linear : Mapping
linear = line (pos 0) (fp 15 (pos 1) 0)

-- linear over the pivots 100 and 200
abbrev pub narrow : Mapping
narrow = pieces (100 ∷ 100 ∷ []) 0 0 ((pos 0 ∷ fp 15 (pos 1) 0 ∷ []) ∷ (pos 0 ∷ fp 15 (pos 1) 0 ∷ []) ∷ [])

-- pivots 0, 512, 1023: piece 0 all zero, piece 1 the constant 0.5
abbrev pub halves : Mapping
halves = pieces (0 ∷ 512 ∷ 511 ∷ []) 1 0 ((pos 0 ∷ pos 0 ∷ []) ∷ (fp 15 (pos 0) 16384 ∷ pos 0 ∷ []) ∷ (fp 15 (pos 0) 16384 ∷ pos 0 ∷ []) ∷ [])

-- linear at depth 8, d = 13, over the pivots 0 and 255
abbrev pub linear8 : Mapping
linear8 = pieces (0 ∷ 255 ∷ []) 0 0 ((pos 0 ∷ fp 13 (pos 1) 0 ∷ []) ∷ (pos 0 ∷ fp 13 (pos 1) 0 ∷ []) ∷ [])

-- E1 to E14; depth 10 and d = 15 but for E14
pub record WorkedExamples : Type 0 where
  pub e1 : mapped 10 15 linear 0 ≡ 0
  pub e2 : mapped 10 15 linear 1 ≡ 64
  pub e3 : mapped 10 15 linear 1023 ≡ 65472
  pub e4 : (s : ℕ) → mapped 10 15 (line (fp 15 (pos 63) 0) (pos 0)) s ≡ 65535
  pub e5 : (s : ℕ) → mapped 10 15 (line (fp 15 (neg_ℤ (pos 64)) 0) (pos 0)) s ≡ 0
  pub e6 : mapped 10 15 (line (pos 0) (fp 15 (neg_ℤ (pos 1)) 0)) 1023 ≡ 0
  pub e7 : mapped 10 15 (curve (pos 0) (pos 0) (fp 15 (pos 1) 0)) 512 ≡ 16384
  pub e8 : mapped 10 15 (curve (pos 0) (pos 0) (fp 15 (pos 1) 0)) 1 ≡ 0
  pub e9 : mapped 10 15 (line (fp 15 (neg_ℤ (pos 1)) 32767) (fp 15 (pos 1) 0)) 1 ≡ 62
  pub e10 : mapped 10 15 narrow 50 ≡ 6400
  pub e11 : mapped 10 15 narrow 900 ≡ 12800
  pub e12 : mapped 10 15 halves 511 ≡ 0
  pub e13 : mapped 10 15 halves 512 ≡ 32768
  pub e14 : mapped 8 13 linear8 255 ≡ 65280

-- pieces 1.0 s, 0.5 s and 0.25 s, one after the other, over the given pivots
abbrev pub bent : List ℕ → ℕ → Mapping
bent preds n = pieces preds n 0 ((pos 0 ∷ fp 15 (pos 1) 0 ∷ []) ∷ (pos 0 ∷ fp 15 (pos 0) 16384 ∷ []) ∷ (pos 0 ∷ fp 15 (pos 0) 8192 ∷ []) ∷ [])

-- worked by hand from 5.4.2.2: a sample that no pivot exceeds takes piece n + 1, at the last pivot
pub record WorkedLastPieces : Type 0 where
  -- pivots 100 and 200: just below the last one piece 0, 199 x 64; at it and above it piece 1, 200 x 32
  pub l1 : mapped 10 15 (bent (100 ∷ 100 ∷ []) 0) 199 ≡ 12736
  pub l2 : mapped 10 15 (bent (100 ∷ 100 ∷ []) 0) 200 ≡ 6400
  pub l3 : mapped 10 15 (bent (100 ∷ 100 ∷ []) 0) 1023 ≡ 6400
  -- pivots 100, 200 and 200: nothing lies between equal pivots, and 200 takes piece 2, 200 x 16
  pub l4 : mapped 10 15 (bent (100 ∷ 100 ∷ 0 ∷ []) 1) 199 ≡ 12736
  pub l5 : mapped 10 15 (bent (100 ∷ 100 ∷ 0 ∷ []) 1) 200 ≡ 3200
  -- pivots 100 and 1123: no sample reaches the last one
  pub l6 : mapped 10 15 (bent (100 ∷ 1023 ∷ []) 0) 1023 ≡ 65472

-- inverse quantization and reconstruction, worked by hand from the pseudo-code; slope 5, threshold 4 and maximum 100 in units of 2 ^ -d
abbrev pub around : ℕ → Quantization
around offset = record { nlq_offset = offset; fp_hdr_in_max = 100; fp_linear_deadzone_slope = 5; fp_linear_deadzone_threshold = 4 }

pub record WorkedResiduals : Type 0 where
  -- at the offset: 0, and the threshold is not added
  pub r1 : residual 10 16 (around 512) 512 ≡ pos 0
  -- one above: rr = 1, dq = 1 x 5 + (4 << 1) = 13, and 13 >> 1 = 6
  pub r2 : residual 10 16 (around 512) 513 ≡ pos 6
  -- one below: dq = -13, and -13 >> 1 rounds down to -7
  pub r3 : residual 10 16 (around 512) 511 ≡ neg_ℤ (pos 7)
  -- far above and far below: dq is cut to 100 << 1 and to its negative
  pub r4 : residual 10 16 (around 512) 612 ≡ pos 100
  pub r5 : residual 10 16 (around 512) 412 ≡ neg_ℤ (pos 100)
  -- depth 8: rr = 1 << 2, dq = 4 x 5 + (4 << 3) = 52, and no shift is left
  pub r6 : residual 8 13 (around 128) 129 ≡ pos 52
  pub r7 : residual 8 13 (around 128) 127 ≡ neg_ℤ (pos 52)
  -- 65535 + 32 >> 6 is 1024, one above the largest code of 10 bits
  pub h1 : reconstructed 10 65535 (pos 0) ≡ 1023
  -- 31 + 32 is just below a code of 10 bits, 32 + 32 just reaches it
  pub h2 : reconstructed 10 31 (pos 0) ≡ 0
  pub h3 : reconstructed 10 32 (pos 0) ≡ 1
  -- 64 + 8 >> 4
  pub h4 : reconstructed 12 64 (pos 0) ≡ 4
  -- -33 + 32 >> 6 is -1, which becomes 0
  pub h5 : reconstructed 10 0 (neg_ℤ (pos 33)) ≡ 0
