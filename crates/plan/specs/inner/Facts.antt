-- What a plan that passes rule 7 gives whoever computes with it, in slack bounds that hold for every depth and every d.
use Rattle.std.specs.Prelude.{◌≡◌, true, ℕ, ◌+◌, ◌*◌, ◌^◌, ◌<◌, ◌≤◌, pos, nat_abs, length, get_or}
use Rattle.plan.specs.declared.Header.{Header}
use Rattle.plan.specs.declared.Piece.{Piece}
use Rattle.plan.specs.declared.Nlq.{Nlq}
use Rattle.plan.specs.declared.Component.{Component}
use Rattle.plan.specs.declared.Plan.{Plan}
use Rattle.plan.specs.Ranges.{most_columns, most_pairs, most_n, bl_depth, el_depth, idc_fits, order_fits, integer_limit}
use Rattle.plan.specs.Rule7.{pivot_places, piece_places, row_places, coefficients_used, no_piece}

-- the header's numbers
pub record HeaderFacts (h : Header) : Type 0 where
  pub base_depth : h.bl ≤ 2
  pub same_depth : h.el ≡ h.bl
  pub deep : el_depth h + 5 ≤ h.d
  pub shallow : h.d ≤ 32
  pub out_depth : h.hdr ≤ 4
  pub some_columns : 1 ≤ h.columns
  pub few_columns : h.columns ≤ most_columns
  pub some_pairs : 1 ≤ h.pairs
  pub few_pairs : h.pairs ≤ most_pairs

-- the lengths of a plan's arrays, which its type fixes and a record alone does not say
pub record Arrays (c : Component) : Type 0 where
  pub preds : length c.preds ≡ pivot_places
  pub pieces : length c.pieces ≡ piece_places
  pub row : (p : ℕ) → p < piece_places → length (get_or c.pieces p no_piece).row ≡ row_places

pub record Sized (p : Plan) : Type 0 where
  pub y : Arrays p.y
  pub cb : Arrays p.cb
  pub cr : Arrays p.cr

-- the numbers of a piece of component k in any place, used or not
pub record PieceFacts (k : ℕ) (h : Header) (q : Piece) : Type 0 where
  pub idc : idc_fits k q.idc ≡ true
  pub order : order_fits q.idc q.order ≡ true
  pub coefficient : (i : ℕ) → i < row_places → nat_abs (get_or q.row i (pos 0)) ≤ integer_limit q.idc * 2 ^ h.d
  pub unused : (i : ℕ) → coefficients_used q.idc q.order ≤ i → i < row_places → get_or q.row i (pos 0) ≡ pos 0

-- the numbers of component k, at every place
pub record ComponentFacts (k : ℕ) (h : Header) (c : Component) : Type 0 where
  pub count : c.n ≤ most_n
  pub pivot : (i : ℕ) → i < pivot_places → get_or c.preds i 0 < 2 ^ bl_depth h
  pub piece : (p : ℕ) → p < piece_places → PieceFacts k h (get_or c.pieces p no_piece)

-- the numbers of a component's inverse quantization
pub record NlqFacts (h : Header) (q : Nlq) : Type 0 where
  pub offset : q.offset < 2 ^ el_depth h
  pub maximum : q.maximum ≤ 2 ^ (h.d + 1)
  pub slope : q.slope ≤ 2 ^ (h.d + 1)
  pub threshold : q.threshold ≤ 2 ^ (h.d + 1)
