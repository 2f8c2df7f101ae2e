-- The worked examples hold: the definitions compute, and E4 and E5, which hold of every sample, need two laws of powers. Assumes nothing.
use mathlib.Core.Path.{◌≡◌, refl}
use Prim.Native.Nat.{ℕ, ◌+◌}
use native.Mathlib.Nat.{pow-zero, zero-mul}
use lib.IntN.{ℤ}
use Rattle.standard.specs.Parameters.{Mapping}
use Rattle.standard.specs.Mapping.{mapped, polynomial, clamped, pivot_idx, first_above, pivot_value, poly_sum}
use Rattle.standard.specs.Residual.{residual, reconstructed}
use Rattle.standard.proofs.Pieces.{of_two}
use Rattle.standard.specs.Examples.{line, WorkedExamples, WorkedLastPieces, WorkedResiduals}

pub last_pieces : WorkedLastPieces
unfolding mapped polynomial pivot_idx first_above pivot_value poly_sum
last_pieces = record { l1 = refl; l2 = refl; l3 = refl; l4 = refl; l5 = refl; l6 = refl }

-- a sample mapped by piece p
abbrev mapped_in : Mapping → ℕ → ℕ → ℕ
mapped_in m s p = polynomial 10 15 (m.fp_poly_coef p) (m.poly_order_minus1 p) (clamped (pivot_value m.pred_pivot_value 0) (pivot_value m.pred_pivot_value (m.num_pivots_minus2 + 1)) s)

-- a line's two pieces are the same
either_piece : (c0 c1 : ℤ) (s : ℕ) {v : ℕ} → mapped_in (line c0 c1) s 0 ≡ v → mapped 10 15 (line c0 c1) s ≡ v
unfolding mapped
either_piece c0 c1 s {v} e = of_two (λ p. mapped_in (line c0 c1) s p ≡ v) (pivot_value (line c0 c1).pred_pivot_value) s e e

pub examples : WorkedExamples
unfolding mapped polynomial pivot_idx first_above pivot_value poly_sum
examples =
    record {
      e1 = refl;
      e2 = refl;
      e3 = refl;
      e4 = λ s. either_piece _ _ s (rw (pow-zero, zero-mul));
      e5 = λ s. either_piece _ _ s (rw (pow-zero, zero-mul));
      e6 = refl;
      e7 = refl;
      e8 = refl;
      e9 = refl;
      e10 = refl;
      e11 = refl;
      e12 = refl;
      e13 = refl;
      e14 = refl;
    }

pub residuals : WorkedResiduals
unfolding residual reconstructed
residuals =
    record {
      r1 = refl;
      r2 = refl;
      r3 = refl;
      r4 = refl;
      r5 = refl;
      r6 = refl;
      r7 = refl;
      h1 = refl;
      h2 = refl;
      h3 = refl;
      h4 = refl;
      h5 = refl;
    }
