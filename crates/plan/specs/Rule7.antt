-- Rule 7: a plan handed in keeps every range, and has 0 in every unused place.
use Rattle.std.specs.Prelude.{Bool, true, cond, ◌&&◌, List, [], ◌∷◌, ℕ, zero, suc, ◌+◌, ◌*◌, ltb, eqb, ℤ, pos, nat_abs, get_or, replicate}
use Rattle.plan.specs.declared.Header.{Header}
use Rattle.plan.specs.declared.Piece.{Piece}
use Rattle.plan.specs.declared.Nlq.{Nlq}
use Rattle.plan.specs.declared.Component.{Component}
use Rattle.plan.specs.declared.Plan.{Plan}
use Rattle.plan.specs.Ranges.{all, header_fits, count_fits, pivot_fits, idc_fits, order_fits, offset_fits, coefficient_fits, unsigned_fits}

-- the test holds of each of 0 .. k - 1
unfoldable pub every : ℕ → (ℕ → Bool) → Bool
every zero test = true
every (suc k) test = every k test && test k

-- how many places a plan has for pivots, for pieces and for the coefficients of a piece
abbrev pub pivot_places : ℕ
pivot_places = 17

abbrev pub piece_places : ℕ
piece_places = 17

abbrev pub row_places : ℕ
row_places = 22

-- of num_pivots_minus2 n + 2 pivots and n + 2 pieces are used; of poly_order_minus1 order + 2 coefficients, of mmr_order_minus1 the
-- constant and 7 for each order
abbrev pub pivots_used : ℕ → ℕ
pivots_used n = n + 2

abbrev pub pieces_used : ℕ → ℕ
pieces_used n = n + 2

abbrev pub coefficients_used : ℕ → ℕ → ℕ
coefficients_used idc order = cond (eqb idc 1) (7 * (order + 1) + 1) (order + 2)

-- what stands past the places of an array
abbrev pub no_piece : Piece
no_piece = record { idc = 0; order = 0; row = [] }

abbrev pub is_zero : ℤ → Bool
is_zero z = eqb (nat_abs z) 0

-- a row: the first k places keep the range of a mapping_idc, the others are 0
unfoldable pub row_fits : Header → ℕ → ℕ → List ℤ → Bool
row_fits h idc k row =
    every row_places
    (λ j. cond (ltb j k) (coefficient_fits h idc (get_or row j (pos 0))) (is_zero (get_or row j (pos 0))))

-- a piece of component k that is used
unfoldable pub piece_fits : ℕ → Header → Piece → Bool
piece_fits k h q =
    idc_fits k q.idc
    && (order_fits q.idc q.order && row_fits h q.idc (coefficients_used q.idc q.order) q.row)

-- a place for a piece that is not used: all of it is 0
unfoldable pub piece_empty : Header → Piece → Bool
piece_empty h q = eqb q.idc 0 && (eqb q.order 0 && row_fits h 0 0 q.row)

unfoldable pub pivots_fit : Header → Component → Bool
pivots_fit h c =
    every pivot_places
    (λ i. cond (ltb i (pivots_used c.n)) (pivot_fits h (get_or c.preds i 0)) (eqb (get_or c.preds i 0) 0))

unfoldable pub pieces_fit : ℕ → Header → Component → Bool
pieces_fit k h c =
    every piece_places
    (λ p. cond (ltb p (pieces_used c.n)) (piece_fits k h (get_or c.pieces p no_piece)) (piece_empty h (get_or c.pieces p no_piece)))

abbrev pub nlq_tests : Header → Nlq → List Bool
nlq_tests h q = offset_fits h q.offset ∷ unsigned_fits h q.maximum ∷ unsigned_fits h q.slope ∷ unsigned_fits h q.threshold ∷ []

unfoldable pub nlq_fits : Header → Nlq → Bool
nlq_fits h q = all (nlq_tests h q)

-- component k: 0 is luma, 1 Cb and 2 Cr
unfoldable pub component_fits : ℕ → Header → Component → Bool
component_fits k h c = count_fits c.n && (pivots_fit h c && (pieces_fit k h c && nlq_fits h c.nlq))

-- a header and its component k that can be computed with
abbrev pub usable : ℕ → Header → Component → Bool
usable k h c = header_fits h && component_fits k h c

-- the plan passes rule 7
unfoldable pub fitting : Plan → Bool
fitting p =
    header_fits p.header
    && (component_fits 0 p.header p.y && (component_fits 1 p.header p.cb && component_fits 2 p.header p.cr))

-- what stands in a place for a piece that is not used, and the plan of zeros, which stands for none: rule 7 refuses it
abbrev pub zero_piece : Piece
zero_piece = record { idc = 0; order = 0; row = replicate row_places (pos 0) }

abbrev pub no_component : Component
no_component = record { n = 0; preds = replicate pivot_places 0; pieces = replicate piece_places zero_piece; nlq = record { offset = 0; maximum = 0; slope = 0; threshold = 0 } }

unfoldable pub no_plan : Plan
no_plan =
    record {
      header = record { profile = 0; level = 0; d = 0; bl = 0; el = 0; hdr = 0; disabled = 0; columns = 0; pairs = 0; brightest = 0; darkest = 0 };
      y = no_component;
      cb = no_component;
      cr = no_component;
    }
