-- What a plan that passes rule 7 gives whoever computes with it. Assumes nothing.
use mathlib.Core.Path.{◌≡◌, refl, sym}
use mathlib.Core.Bool.{Bool, true, false, ◌&&◌, cond}
use Prim.Native.Nat.{ℕ, ◌+◌, ◌^◌, ◌≤◌, zero-le}
use native.Mathlib.Nat.{le_of_lt, pow-succ'}
use native.Mathlib.Numerals.{add-one}
use native.Mathlib.Omega.{arith}
use lib.Dec.{eqb, ltb}
use lib.Pow.{pow_pos}
use borrow.Author.Tests.{eqb-true, leb-true, ltb-true, le-leb}
use Rattle.plan.specs.declared.Header.{Header}
use Rattle.plan.specs.declared.Piece.{Piece}
use Rattle.plan.specs.declared.Nlq.{Nlq}
use Rattle.plan.specs.declared.Component.{Component}
use Rattle.plan.specs.declared.Plan.{Plan}
use Rattle.plan.specs.Ranges.{most_columns, most_pairs, most_n, bl_depth, format_tests, format_fits, size_tests, size_fits, header_fits, count_fits, idc_fits, order_fits, unsigned_fits}
use Rattle.plan.specs.Rule7.{pivot_places, piece_places, pivots_used, pieces_used, piece_fits, piece_empty, pivots_fit, pieces_fit, nlq_tests, nlq_fits, component_fits, usable, fitting, no_plan}
use Rattle.plan.specs.inner.Facts.{HeaderFacts, PieceFacts, ComponentFacts, NlqFacts}
use Rattle.plan.proofs.Truths.{both, each, inside, either_le, every-at, place_below}
use Rattle.plan.proofs.Coefficients.{row_le, row_zero}

pub header-kept : (h : Header) → header_fits h ≡ true → HeaderFacts h
unfolding format_fits size_fits
header-kept h e =
    let p = both (format_fits h) (size_fits h) e in
    let f = each (format_tests h) p.0 in
    let s = each (size_tests h) p.1 in
    let d = inside (h.el + 8 + 5) 32 h.d f.1.1.1.1.1.0 in
    let columns = inside 1 most_columns h.columns s.0 in
    let pairs = inside 1 most_pairs h.pairs s.1.0 in
    record {
      base_depth = either_le _ 0 2 (omega arith) f.1.1.0;
      same_depth = sym (eqb-true _ _ f.1.1.1.1.0);
      deep = omega (arith, d.0);
      shallow = d.1;
      out_depth = either_le _ 2 4 (omega arith) f.1.1.1.1.1.1.0;
      some_columns = columns.0;
      few_columns = columns.1;
      some_pairs = pairs.0;
      few_pairs = pairs.1;
    }

-- a piece in any place, used or not
-- every component may have polynomials
zero_idc : (k : ℕ) → idc_fits k 0 ≡ true
zero_idc k = le-leb 0 (cond (eqb k 0) 0 1) zero-le

piece-kept : (k : ℕ) (h : Header) (used : Bool) (q : Piece) → cond used (piece_fits k h q) (piece_empty h q) ≡ true → PieceFacts k h q
unfolding piece_fits piece_empty
piece-kept k h true q e =
    let i = both (idc_fits k q.idc) _ e in
    let o = both (order_fits q.idc q.order) _ i.1 in
    record { idc = i.0; order = o.0; coefficient = row_le h q.idc _ q.row o.1; unused = row_zero h q.idc _ q.row o.1 }
piece-kept k h false q e =
    let i = both (eqb q.idc 0) _ e in
    let o = both (eqb q.order 0) _ i.1 in
    let zi = eqb-true q.idc 0 i.0 in
    let zo = eqb-true q.order 0 o.0 in
    record {
      idc = rw zi (zero_idc k);
      order = rw (zi, zo) refl;
      coefficient = λ j b. rw zi (row_le h 0 0 q.row o.1 j b);
      unused = λ j b l. row_zero h 0 0 q.row o.1 j (omega arith) l;
    }

unsigned_le : (h : Header) (v : ℕ) → unsigned_fits h v ≡ true → v ≤ 2 ^ (h.d + 1)
unsigned_le h v e = rw (add-one, pow-succ') (le_of_lt (ltb-true v _ e))

pub component_facts : (k : ℕ) (h : Header) (c : Component) → component_fits k h c ≡ true → ComponentFacts k h c
unfolding component_fits pivots_fit pieces_fit
component_facts k h c e =
    let n = both _ _ e in
    let v = both (pivots_fit h c) _ n.1 in
    let p = both (pieces_fit k h c) (nlq_fits h c.nlq) v.1 in
    record {
      count = leb-true _ most_n n.0;
      pivot = λ i b. place_below (ltb i (pivots_used c.n)) _ _ (pow_pos (bl_depth h)) (every-at _ pivot_places v.0 i b);
      piece = λ i b. piece-kept k h (ltb i (pieces_used c.n)) _ (every-at _ piece_places p.0 i b);
    }

pub nlq_facts : (h : Header) (q : Nlq) → nlq_fits h q ≡ true → NlqFacts h q
unfolding nlq_fits
nlq_facts h q e =
    let t = each (nlq_tests h q) e in
    record { offset = ltb-true _ _ t.0; maximum = unsigned_le h _ t.1.0; slope = unsigned_le h _ t.1.1.0; threshold = unsigned_le h _ t.1.1.1.0 }

-- what is asked of a component is asked of its inverse quantization
pub nlq_of : (k : ℕ) (h : Header) (c : Component) → usable k h c ≡ true → (header_fits h && nlq_fits h c.nlq) ≡ true
unfolding component_fits
nlq_of k h c e =
    let u = both (header_fits h) _ e in
    let n = both (count_fits c.n) _ u.1 in
    let v = both (pivots_fit h c) _ n.1 in
    rw (u.0, (both (pieces_fit k h c) (nlq_fits h c.nlq) v.1).1)

abbrev Fits : Plan → ℕ → Component → Type 0
Fits p k c = component_fits k p.header c ≡ true

parts : (p : Plan) → fitting p ≡ true → (header_fits p.header ≡ true) × (Fits p 0 p.y × (Fits p 1 p.cb × Fits p 2 p.cr))
unfolding fitting
parts p e =
    let h = both (header_fits p.header) _ e in
    let y = both (component_fits 0 p.header p.y) _ h.1 in
    (h.0, (y.0, both (component_fits 1 p.header p.cb) _ y.1))

-- each component can be computed with
module _ (p : Plan) (e : fitting p ≡ true) where
  pub y_usable : usable 0 p.header p.y ≡ true
  y_usable = rw ((parts p e).0, (parts p e).1.0)

  pub cb_usable : usable 1 p.header p.cb ≡ true
  cb_usable = rw ((parts p e).0, (parts p e).1.1.0)

  pub cr_usable : usable 2 p.header p.cr ≡ true
  cr_usable = rw ((parts p e).0, (parts p e).1.1.1)

pub header-passed : (p : Plan) → fitting p ≡ true → header_fits p.header ≡ true
header-passed p e = (parts p e).0

pub header_facts : (p : Plan) → fitting p ≡ true → HeaderFacts p.header
header_facts p e = header-kept p.header (header-passed p e)

-- the plan of zeros has no listed profile
pub no_plan_refused : fitting no_plan ≡ false
unfolding fitting no_plan format_fits
no_plan_refused = refl
