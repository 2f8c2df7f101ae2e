-- What a plan gives the composing process: the parameters under the standard's names.
use Rattle.std.specs.Prelude.{pos, get_or}
use Rattle.standard.specs.Parameters.{Mmr, Mapping, Quantization}
use Rattle.standard.specs.Mmr.{cnt}
use Rattle.plan.specs.declared.Piece.{Piece}
use Rattle.plan.specs.declared.Component.{Component}
use Rattle.plan.specs.declared.Nlq.{Nlq}
use Rattle.plan.specs.Rule7.{no_piece}

-- the row of an MMR piece has the constant, and then the coefficients in their order
abbrev pub mmr_piece : Piece → Mmr
mmr_piece q = record { mmr_order_minus1 = q.order; fp_mmr_constant = get_or q.row 0 (pos 0); fp_mmr_coef = λ i j. get_or q.row (cnt i j) (pos 0) }

abbrev pub mapping : Component → Mapping
mapping c =
    record {
      num_pivots_minus2 = c.n;
      pred_pivot_value = λ i. get_or c.preds i 0;
      mapping_idc = λ p. (get_or c.pieces p no_piece).idc;
      poly_order_minus1 = λ p. (get_or c.pieces p no_piece).order;
      fp_poly_coef = λ p i. get_or (get_or c.pieces p no_piece).row i (pos 0);
      mmr = λ p. mmr_piece (get_or c.pieces p no_piece);
    }

abbrev pub quantization : Nlq → Quantization
quantization q = record { nlq_offset = q.offset; fp_hdr_in_max = q.maximum; fp_linear_deadzone_slope = q.slope; fp_linear_deadzone_threshold = q.threshold }
