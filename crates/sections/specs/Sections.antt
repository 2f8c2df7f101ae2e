-- A section of the composing block (the house rules): pivots, pieces and the residual's numbers of one component.
use Rattle.std.specs.Prelude.{List, ℕ, ◌+◌, ◌*◌, ◌^◌, leb, ℤ, pos}
use Rattle.standard.specs.Parameters.{fp}
use Rattle.plan.specs.declared.Header.{Header}
use Rattle.plan.specs.declared.Piece.{Piece}
use Rattle.plan.specs.declared.Nlq.{Nlq}
use Rattle.plan.specs.declared.Component.{Component}
use Rattle.plan.specs.Ranges.{count_fits, pivot_fits, idc_fits, order_fits, offset_fits, fraction_fits}
use Rattle.plan.specs.Rule7.{pivot_places, piece_places, row_places, pivots_used, coefficients_used, zero_piece}
use Rattle.plan.specs.Versions.{pieces_carried, pieces_read}
use Rattle.fields.specs.declared.kinds.Kind.{Kind}
use Rattle.fields.specs.declared.kinds.Kind.TheVariants.{HdrInMaxInt, LeftOver, MappingIdc, NlqOffset, NumPivotsMinus2, PredPivotValue, SlopeInt, ThresholdInt}
use Rattle.fields.specs.declared.Width.TheVariants.{One, Two, Four}
use Rattle.fields.specs.Fields.{Read, got, ◌then◌, repeated, padded, ended}
use Rattle.section_fields.specs.Fields.{asked, ranged, order_kind, integer_kind, fraction_kind, integer_width, signed, integer_fits}

-- the coefficient in place i of piece p, by its mapping_idc: a signed byte -64 to 63, or 4 bytes -65,536 to 65,535, and a fraction of 4
unfoldable pub coefficient : Header → ℕ → ℕ → ℕ → ℕ → List ℕ → Read ℤ
coefficient h k p idc i bytes =
    ranged (asked (integer_kind idc i) k p i (integer_width idc)) (integer_fits idc) bytes then λ n rest.
    ranged (asked (fraction_kind (integer_kind idc i)) k p i Four) (fraction_fits h) rest then λ f rest.
    got (fp h.d (signed (integer_width idc) n) f) rest

-- hdr_in_max, slope, threshold: an integer byte 0 or 1, and a fraction of 4 bytes
unfoldable pub unsigned : Header → ℕ → Kind → List ℕ → Read ℕ
unsigned h k kind bytes =
    ranged (asked kind k 0 0 One) (λ n. leb n 1) bytes then λ n rest.
    ranged (asked (fraction_kind kind) k 0 0 Four) (fraction_fits h) rest then λ f rest.
    got (n * 2 ^ h.d + f) rest

-- piece p: mapping_idc, poly_order_minus1 or mmr_order_minus1, and its coefficients; the places beyond are 0
unfoldable pub piece : Header → ℕ → ℕ → List ℕ → Read Piece
piece h k p bytes =
    ranged (asked MappingIdc k p 0 One) (idc_fits k) bytes then λ m rest.
    ranged (asked (order_kind m) k p 0 One) (order_fits m) rest then λ o rest.
    repeated 0 (coefficients_used m o) (coefficient h k p m) rest then λ row rest.
    got (record { idc = m; order = o; row = padded row_places (pos 0) row }) rest

-- pred_pivot_value i
abbrev pub pivot : Header → ℕ → ℕ → List ℕ → Read ℕ
pivot h k i = ranged (asked PredPivotValue k i 0 Two) (pivot_fits h)

-- nlq_offset, hdr_in_max, slope, threshold
unfoldable pub nlq : Header → ℕ → List ℕ → Read Nlq
nlq h k bytes =
    ranged (asked NlqOffset k 0 0 Two) (offset_fits h) bytes then λ o rest.
    unsigned h k HdrInMaxInt rest then λ m rest.
    unsigned h k SlopeInt rest then λ s rest.
    unsigned h k ThresholdInt rest then λ t rest.
    got (record { offset = o; maximum = m; slope = s; threshold = t }) rest

-- section k of a version: num_pivots_minus2, the pivots, the pieces, the residual's numbers; bytes left over are refused 3
unfoldable pub section : ℕ → Header → ℕ → List ℕ → Read Component
section version h k bytes =
    ranged (asked NumPivotsMinus2 k 0 0 One) count_fits bytes then λ n rest.
    repeated 0 (pivots_used n) (pivot h k) rest then λ pivots rest.
    repeated 0 (pieces_carried version n) (piece h k) rest then λ pieces rest.
    nlq h k rest then λ q rest.
    ended (asked LeftOver k 0 0 One).name 3 (record { n = n; preds = padded pivot_places 0 pivots; pieces = padded piece_places zero_piece (pieces_read version n pieces); nlq = q }) rest
