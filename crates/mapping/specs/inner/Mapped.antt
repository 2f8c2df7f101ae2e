-- The mapped sample of every code that a base layer sample can have (5.4.2), as a table.
use Rattle.std.specs.Prelude.{Bool, ◌&&◌, cond, List, ℕ, ◌*◌, ◌^◌, leb, ltb, eqb, ℤ, pos, nat_abs, get_or, Option, Some, None}
use Rattle.runs.specs.inner.Loops.{at}
use Rattle.runs.specs.inner.Tables.{table, coded}
use Rattle.standard.specs.Mapping.{mapped}
use Rattle.plan.specs.declared.Header.{Header}
use Rattle.plan.specs.declared.Piece.{Piece}
use Rattle.plan.specs.declared.Component.{Component}
use Rattle.plan.specs.Parameters.{mapping}
use Rattle.plan.specs.Ranges.{bl_depth, count_fits, order_fits}
use Rattle.plan.specs.Rule7.{every, pivot_places, pieces_used, no_piece}

-- what the mapping is computed with, and how large it may be, the same for every depth and d: less than rule 7 asks
abbrev pub frame_maps : Header → ℕ → List ℕ → Bool
frame_maps h n preds = leb h.bl 2 && (leb h.d 32 && (count_fits n && every pivot_places (λ i. ltb (at preds i) (2 ^ bl_depth h))))

-- a third coefficient that the order does not use is 0
abbrev pub polynomial_maps : ℕ → List ℤ → Bool
polynomial_maps order row =
    order_fits 0 order
    && (leb (nat_abs (get_or row 0 (pos 0))) (2 ^ 38)
    && (leb (nat_abs (get_or row 1 (pos 0))) (2 ^ 38) && leb (nat_abs (get_or row 2 (pos 0))) (order * 2 ^ 38)))

-- the order of a polynomial; of another method one that no polynomial has
abbrev pub order_by : ℕ → ℕ → ℕ
order_by idc order = cond (eqb idc 0) order 2

abbrev pub piece_maps : Piece → Bool
piece_maps q = polynomial_maps (order_by q.idc q.order) q.row

abbrev pub pieces_map : Component → Bool
pieces_map c = every (pieces_used c.n) (λ p. piece_maps (get_or c.pieces p no_piece))

abbrev pub can_map : Header → Component → Bool
can_map h c = frame_maps h c.n c.preds && pieces_map c

-- a sample has at most 10 bits; 0 past the codes, and where the component cannot be computed with
unfoldable pub mapped_table : Header → Component → List ℕ
mapped_table h c = table 1024 (coded (can_map h c) (2 ^ bl_depth h) (mapped (bl_depth h) h.d (mapping c)))

-- the table, where there is one
abbrev pub answer : Header → Component → Option (List ℕ)
answer h c = cond (can_map h c) (Some (mapped_table h c)) None
