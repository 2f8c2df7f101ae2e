-- A section of the composing block as bytes (the house layout), field by field from the page.
use Rattle.std.specs.Prelude.{cond, List, ◌++◌, ℕ, eqb, pos, get_or}
use Rattle.plan.specs.declared.Piece.{Piece}
use Rattle.plan.specs.declared.Nlq.{Nlq}
use Rattle.plan.specs.declared.Component.{Component}
use Rattle.plan.specs.Rule7.{pivots_used, coefficients_used, no_piece}
use Rattle.plan.specs.Versions.{pieces_carried}
use Rattle.pen.specs.Bytes.{bytes_of, number_bytes, in_turn}

-- by mapping_idc: the integer part of a coefficient has 1 byte, or 4
abbrev pub integer_width : ℕ → ℕ
integer_width idc = cond (eqb idc 1) 4 1

-- a piece: mapping_idc, poly_order_minus1 or mmr_order_minus1, then its coefficients
unfoldable pub piece_bytes : ℕ → Piece → List ℕ
piece_bytes d q =
    bytes_of 1 q.idc
    ++ (bytes_of 1 q.order
    ++ in_turn (coefficients_used q.idc q.order) (λ i. number_bytes (integer_width q.idc) d (get_or q.row i (pos 0))))

-- nlq_offset, then hdr_in_max, slope and threshold
unfoldable pub nlq_bytes : ℕ → Nlq → List ℕ
nlq_bytes d q =
    bytes_of 2 q.offset
    ++ (number_bytes 1 d (pos q.maximum)
    ++ (number_bytes 1 d (pos q.slope)
    ++ number_bytes 1 d (pos q.threshold)))

-- a section of a version: num_pivots_minus2, n + 2 pred_pivot_value, the pieces that the version carries, and the residual's numbers
unfoldable pub section_bytes : ℕ → ℕ → Component → List ℕ
section_bytes version d c =
    bytes_of 1 c.n
    ++ (in_turn (pivots_used c.n) (λ i. bytes_of 2 (get_or c.preds i 0))
    ++ (in_turn (pieces_carried version c.n) (λ p. piece_bytes d (get_or c.pieces p no_piece))
    ++ nlq_bytes d c.nlq))
