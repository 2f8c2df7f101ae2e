-- Worked examples of the MMR mapping, by hand from the pseudo-code of 5.4.2.3.3.
use Rattle.std.specs.Prelude.{◌≡◌, cond, ◌&&◌, List, [], ◌∷◌, ℕ, ◌-◌, ◌*◌, min, eqb, ℤ, pos, neg_ℤ, get_or}
use Rattle.standard.specs.Parameters.{Mapping, Mmr, fp}
use Rattle.standard.specs.Mmr.{down_sampled, mmr, mmr_mapped, chroma_mapped}
use Rattle.standard.specs.Examples.{pieces}

-- a piece of an order by its constant and its rows of seven coefficients
abbrev pub mmr_piece : ℕ → ℤ → List (List ℤ) → Mmr
mmr_piece order constant rows = record { mmr_order_minus1 = order - 1; fp_mmr_constant = constant; fp_mmr_coef = λ i j. get_or (get_or rows (i - 1) []) j (pos 0) }

-- one that has a constant and the coefficient [i][j] alone
abbrev pub only : ℕ → ℤ → ℕ → ℕ → ℤ → Mmr
only order constant i j c = record { mmr_order_minus1 = order - 1; fp_mmr_constant = constant; fp_mmr_coef = λ a b. cond (eqb a i && eqb b j) c (pos 0) }

-- one of which all coefficients are the same
abbrev pub full : ℕ → ℤ → Mmr
full order c = record { mmr_order_minus1 = order - 1; fp_mmr_constant = c; fp_mmr_coef = λ i j. c }

-- c, 2c, .. 7c, with 15 bits of fraction
abbrev pub rising : ℕ → List ℤ
rising c = fp 15 (pos 0) c ∷ fp 15 (pos 0) (2 * c) ∷ fp 15 (pos 0) (3 * c) ∷ fp 15 (pos 0) (4 * c) ∷ fp 15 (pos 0) (5 * c) ∷ fp 15 (pos 0) (6 * c) ∷ fp 15 (pos 0) (7 * c) ∷ []

-- n.0, and its negative, with 15 bits of fraction
abbrev pub whole : ℕ → ℤ
whole n = fp 15 (pos n) 0

abbrev pub minus : ℕ → ℤ
minus n = fp 15 (neg_ℤ (pos n)) 0

-- the least and the greatest coefficient for d bits of fraction
abbrev pub least : ℕ → ℤ
least d = fp d (neg_ℤ (pos 65536)) 0

abbrev pub greatest : ℕ → ℕ → ℤ
greatest d ones = fp d (pos 65535) ones

-- a component whose samples are clamped to a first and a last pivot
abbrev pub between : ℕ → ℕ → Mapping
between first last = pieces (first ∷ (last - first) ∷ []) 0 0 []

-- over the pivots 0, 512 and 1023: piece 0 the polynomial 1.0 s, pieces 1 and 2 the MMR 1.0 s0
abbrev pub mixed : Mapping
mixed =
    record {
      num_pivots_minus2 = 1;
      pred_pivot_value = λ i. get_or (0 ∷ 512 ∷ 511 ∷ []) i 0;
      mapping_idc = λ p. min p 1;
      poly_order_minus1 = λ p. 0;
      fp_poly_coef = λ p i. cond (eqb i 1) (whole 1) (pos 0);
      mmr = λ p. only 1 (pos 0) 1 0 (whole 1);
    }

-- a luma row by its samples
abbrev pub row : List ℕ → ℕ → ℕ
row samples x = get_or samples x 0

-- depth 10 and d = 15 but where it is said
pub record WorkedMmr : Type 0 where
  -- the constant alone: 0.5 x 2^20, >> 4
  pub m1 : mmr 10 15 (only 1 (fp 15 (pos 0) 16384) 1 0 (pos 0)) 1023 7 1 ≡ 32768
  -- order 1. 1.0 s0: 512 << 10, >> 4; and 1.0 s0 s1 at depth 8, d = 13: 200 x 100 << 4, >> 4
  pub m2 : mmr 10 15 (only 1 (pos 0) 1 0 (whole 1)) 512 7 1 ≡ 32768
  pub m3 : mmr 8 13 (only 1 (pos 0) 1 3 (fp 13 (pos 1) 0)) 200 100 1 ≡ 20000
  -- 16.0 s0 s1 s2: tt[4] = 33 x 35 = 1155, tt[3] = 37 << 10 = 37888, and 1155 x 37888 = 43760640 is 41 x 2^20 and more
  pub m4 : mmr 10 15 (only 1 (pos 0) 1 6 (whole 16)) 33 35 37 ≡ 41
  -- order 2. 1.0 s1 s1: 512 x 512, >> 4
  pub m5 : mmr 10 15 (only 2 (pos 0) 2 1 (whole 1)) 7 512 1 ≡ 16384
  -- 16.0 (s0 s1 s2)^2 - 13.0: tt[7] = 10^6 x 1024000 >> 20 = 976562, its square 953673339844 >> 20 = 909493, less 13 x 65536
  pub m6 : mmr 10 15 (only 2 (minus 13) 2 6 (whole 16)) 1000 1000 1000 ≡ 57525
  -- order 3. 1.0 s2^3: tt[3] = 2^19, tt[10] = 2^18, 2^37 >> 20 = 2^17, >> 4
  pub m7 : mmr 10 15 (only 3 (pos 0) 3 2 (whole 1)) 7 1 512 ≡ 8192
  -- 16.0 (s0 s1 s2)^3 - 12.0: 976562 x 909493 = 888176303066 >> 20 = 847030, less 12 x 65536
  pub m8 : mmr 10 15 (only 3 (minus 12) 3 6 (whole 16)) 1000 1000 1000 ≡ 60598
  -- a coefficient beyond the order is not read
  pub m9 : mmr 10 15 (only 1 (whole 0) 2 0 (whole 1)) 512 512 512 ≡ 0
  -- each coefficient at its term: samples 512, 256 and 64 give tt[1] to tt[7] 2^19, 2^18, 2^16, 2^17, 2^15, 2^14 and 2^13, and the
  -- coefficients 1/32 to 7/32 make 255 x 2^13 / 32, >> 4
  pub m10 : let row = rising 1024 in mmr 10 15 (mmr_piece 1 (pos 0) (row ∷ [])) 512 256 64 ≡ 4080
  -- tt[8] to tt[14] are 2^18, 2^16, 2^12, 2^14, 2^10, 2^8 and 2^6: 478144 >> 4
  pub m11 : mmr 10 15 (mmr_piece 2 (pos 0) ([] ∷ rising 32768 ∷ [])) 512 256 64 ≡ 29884
  -- tt[15] to tt[21] are 2^17, 2^14, 2^8, 2^11, 2^5, 2^2 and 0: 172984 >> 4
  pub m12 : mmr 10 15 (mmr_piece 3 (pos 0) ([] ∷ [] ∷ rising 32768 ∷ [])) 512 256 64 ≡ 10811
  -- a negative sum, however small: -2^-15, and 1.0 - 16.0 s0; 1.0 - 2^-15 is 65534, and 1.0, which is 65536, is cut
  pub m13 : mmr 10 15 (only 1 (fp 15 (neg_ℤ (pos 1)) 32767) 1 0 (pos 0)) 1 1 1 ≡ 0
  pub m14 : mmr 10 15 (only 1 (whole 1) 1 0 (minus 16)) 1023 1 1 ≡ 0
  pub m15 : mmr 10 15 (only 1 (fp 15 (pos 0) 32767) 1 0 (pos 0)) 1 1 1 ≡ 65534
  pub m16 : mmr 10 15 (only 1 (whole 1) 1 0 (pos 0)) 1 1 1 ≡ 65535
  -- both ends of the coefficients: 0.5 - 65536.0 s0 + (65536.0 - 2^-15) s1 is 2^34 less 2^19, >> 19
  pub m17 : mmr 10 15 (mmr_piece 1 (fp 15 (pos 0) 16384) ((least 15 ∷ greatest 15 32767 ∷ []) ∷ [])) 512 512 1 ≡ 32767
  -- all 22 at one end, d = 32: the sum has 73 bits
  pub m18 : mmr 10 32 (full 3 (greatest 32 4294967295)) 1023 1023 1023 ≡ 65535
  pub m19 : mmr 10 32 (full 3 (least 32)) 1023 1023 1023 ≡ 0
  -- the clamps, 1.0 s0 s1: luma 50 becomes 100, Cb 900 becomes 300; Cr's pivots play no part; 100 x 300 >> 4
  pub c1 : mmr_mapped 10 15 (only 1 (pos 0) 1 3 (whole 1)) (between 100 200) (between 0 300) (between 500 600) 50 900 1 ≡ 1875
  -- both methods in one component, by its own sample: just below the pivot 511 x 64, at it and above the last 300 x 64
  pub x1 : chroma_mapped 10 15 (between 0 1023) mixed (between 0 1023) mixed 511 300 511 7 ≡ 32704
  pub x2 : chroma_mapped 10 15 (between 0 1023) mixed (between 0 1023) mixed 512 300 512 7 ≡ 19200
  pub x3 : chroma_mapped 10 15 (between 0 1023) mixed (between 0 1023) mixed 1023 300 1023 7 ≡ 19200
  -- the left edge: columns 0, 0 and 1 give 10 + 20 + 20 + 2 >> 2 = 13 and 11 + 22 + 21 + 2 >> 2 = 14, and 13 + 14 + 1 >> 1 = 14
  pub d1 : down_sampled 4 (row (10 ∷ 20 ∷ 30 ∷ 40 ∷ [])) (row (11 ∷ 21 ∷ 31 ∷ 41 ∷ [])) 0 ≡ 14
  -- columns 1, 2 and 3: 20 + 60 + 40 + 2 >> 2 = 30, 21 + 62 + 41 + 2 >> 2 = 31, and 31
  pub d2 : down_sampled 4 (row (10 ∷ 20 ∷ 30 ∷ 40 ∷ [])) (row (11 ∷ 21 ∷ 31 ∷ 41 ∷ [])) 1 ≡ 31
