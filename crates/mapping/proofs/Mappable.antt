-- What a component that can be mapped gives, and that one that passes rule 7 can be. Assumes nothing.
use mathlib.Core.Path.{◌≡◌, refl, ap}
use mathlib.Core.Bool.{Bool, true, false, cond}
use Prim.Native.Nat.{ℕ, zero, suc, ◌+◌, ◌*◌, ◌^◌, ◌<◌, ◌≤◌}
use native.Mathlib.Nat.{le_trans, mul-le-mul_left}
use native.Mathlib.Omega.{arith}
use lib.Dec.{leb, ltb, eqb}
use lib.IntN.{pos, nat_abs}
use lib.ListN.{get_or}
use lib.Pow.{pow_mono}
use borrow.Author.Tests.{eqb-true, leb-true, ltb-true, le-leb, lt-ltb}
use Rattle.runs.specs.inner.Loops.{at}
use Rattle.plan.specs.declared.Header.{Header}
use Rattle.plan.specs.declared.Piece.{Piece}
use Rattle.plan.specs.declared.Component.{Component}
use Rattle.plan.specs.Ranges.{most_n, bl_depth, header_fits, count_fits, order_fits}
use Rattle.plan.specs.Rule7.{pivot_places, row_places, pieces_used, no_piece, usable}
use Rattle.plan.specs.inner.Facts.{HeaderFacts, PieceFacts, ComponentFacts}
use Rattle.plan.proofs.Facts.{header-kept, component_facts}
use Rattle.plan.proofs.Truths.{both, every-at, every_true}
use Rattle.mapping.specs.inner.Mapped.{frame_maps, order_by, piece_maps, pieces_map, can_map}
use Rattle.mapping.specs.inner.Copies.{coef}

-- ---- what the tests give
pub record FrameFacts (h : Header) (n : ℕ) (preds : ℕ → ℕ) : Type 0 where
  pub shallow : bl_depth h ≤ 10
  pub denominator : h.d ≤ 32
  pub count : n ≤ most_n
  pub pivot : (i : ℕ) → i < pivot_places → preds i < 2 ^ bl_depth h

pub record PolynomialFacts (q : Piece) : Type 0 where
  pub method : q.idc ≡ 0
  pub order : q.order ≤ 1
  pub coefficient : (i : ℕ) → i < 3 → nat_abs (coef q.row i) ≤ 2 ^ 38
  pub unused : q.order ≡ 0 → nat_abs (coef q.row 2) ≡ 0

pub frame_facts : (h : Header) (c : Component) → frame_maps h c.n c.preds ≡ true → FrameFacts h c.n (at c.preds)
frame_facts h c e =
    let b = both (leb h.bl 2) _ e in
    let d = both (leb h.d 32) _ b.1 in
    let n = both (count_fits c.n) _ d.1 in
    record {
      shallow = omega (arith, leb-true h.bl 2 b.0);
      denominator = leb-true h.d 32 d.0;
      count = leb-true c.n most_n n.0;
      pivot = λ i k. ltb-true _ _ (every-at _ pivot_places n.1 i k);
    }

-- a third coefficient goes by the order: 0 where it is not used
third_given : (order : ℕ) {z : ℕ} → order ≤ 1 → z ≤ order * 2 ^ 38 → (z ≤ 2 ^ 38) × (order ≡ 0 → z ≡ 0)
third_given zero h k = (omega arith, λ o. omega arith)
third_given (suc zero) h k = (omega arith, λ o. omega arith)
third_given (suc (suc order)) h k = absurd (omega arith)

third_asked : (order : ℕ) {z : ℕ} → order ≤ 1 → z ≤ 2 ^ 38 → (order ≡ 0 → z ≡ 0) → z ≤ order * 2 ^ 38
third_asked zero h k u = omega (arith, u refl)
third_asked (suc zero) h k u = omega arith
third_asked (suc (suc order)) h k u = absurd (omega arith)

-- an order that a polynomial has is one of a polynomial
by_order : (t : Bool) (order : ℕ) → cond t order 2 ≤ 1 → t ≡ true
by_order true order h = refl
by_order false order h = absurd (omega arith)

piece_facts : (q : Piece) → piece_maps q ≡ true → PolynomialFacts q
piece_facts q e =
    let k = order_by q.idc q.order in
    let o = both (order_fits 0 k) _ e in
    let a = both (leb (nat_abs (coef q.row 0)) (2 ^ 38)) _ o.1 in
    let b = both (leb (nat_abs (coef q.row 1)) (2 ^ 38)) _ a.1 in
    let polynomial : eqb q.idc 0 ≡ true = by_order (eqb q.idc 0) q.order (leb-true k 1 o.0) in
    let same : k ≡ q.order = rw polynomial refl in
    let order : q.order ≤ 1 = rw same at (leb-true k 1 o.0) in
    let most : nat_abs (coef q.row 2) ≤ k * 2 ^ 38 = leb-true _ _ b.1 in
    let third = third_given q.order order (rw same at most) in
    record {
      method = eqb-true q.idc 0 polynomial;
      order = order;
      coefficient = each (λ i. nat_abs (coef q.row i)) (leb-true _ _ a.0) (leb-true _ _ b.0) third.0;
      unused = third.1;
    }
  where
    each : (f : ℕ → ℕ) {top : ℕ} → f 0 ≤ top → f 1 ≤ top → f 2 ≤ top → (i : ℕ) → i < 3 → f i ≤ top
    each f a b c zero h = a
    each f a b c (suc zero) h = b
    each f a b c (suc (suc zero)) h = c
    each f a b c (suc (suc (suc i))) h = absurd (omega arith)

pub pieces_facts : (c : Component) → pieces_map c ≡ true → (p : ℕ) → p < pieces_used c.n → PolynomialFacts (get_or c.pieces p no_piece)
pieces_facts c e p b = piece_facts _ (every-at _ (pieces_used c.n) e p b)

-- ---- rule 7 asks more
frame_usable : (k : ℕ) (h : Header) (c : Component) → HeaderFacts h → ComponentFacts k h c → frame_maps h c.n c.preds ≡ true
frame_usable k h c f g =
    rw (
      le-leb h.bl 2 f.base_depth,
      le-leb h.d 32 f.shallow,
      le-leb c.n most_n g.count,
      every_true (λ i. ltb (at c.preds i) (2 ^ bl_depth h)) pivot_places (λ i b. lt-ltb _ _ (g.pivot i b)),
    )

piece-usable : (k : ℕ) (h : Header) (q : Piece) → HeaderFacts h → PieceFacts k h q → q.idc ≡ 0 → piece_maps q ≡ true
piece-usable k h q f g z =
    let low : (i : ℕ) → i < row_places → nat_abs (coef q.row i) ≤ 64 * 2 ^ h.d = rw z at g.coefficient in
    let zero : (i : ℕ) → q.order + 2 ≤ i → i < row_places → coef q.row i ≡ pos 0 = rw z at g.unused in
    let order : q.order ≤ 1 = leb-true q.order 1 (rw z at g.order) in
    let size : (i : ℕ) → i < 3 → nat_abs (coef q.row i) ≤ 2 ^ 38 = λ i b. le_trans (low i (omega arith)) (mul-le-mul_left 64 (pow_mono f.shallow)) in
    rw (
      z,
      le-leb q.order 1 order,
      le-leb (nat_abs (coef q.row 0)) (2 ^ 38) (size 0 (omega arith)),
      le-leb (nat_abs (coef q.row 1)) (2 ^ 38) (size 1 (omega arith)),
      le-leb (nat_abs (coef q.row 2)) (q.order * 2 ^ 38) (third_asked q.order order (size 2 (omega arith)) (λ o. ap nat_abs (zero 2 (omega arith) (omega arith)))),
    )

-- a component of polynomials
pub usable_maps : (k : ℕ) (h : Header) (c : Component) → usable k h c ≡ true → ((p : ℕ) → p < pieces_used c.n → (get_or c.pieces p no_piece).idc ≡ 0) → can_map h c ≡ true
usable_maps k h c e z =
    let u = both (header_fits h) _ e in
    let f = header-kept h u.0 in
    let g = component_facts k h c u.1 in
    rw (
      frame_usable k h c f g,
      every_true (λ p. piece_maps (get_or c.pieces p no_piece)) (pieces_used c.n) (λ p b. piece-usable k h _ f (g.piece p (omega (arith, g.count))) (z p b)),
    )
