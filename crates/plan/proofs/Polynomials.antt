-- A component of polynomials is one that luma could be: it passes rule 7, and none of its pieces is MMR. Assumes nothing.
use mathlib.Core.Path.{◌≡◌, refl, sym, ap, ap₂, ◌∙◌}
use mathlib.Core.Bool.{Bool, true, false, not, ◌&&◌, ◌||◌, cond, true≢false}
use Prim.Native.Nat.{ℕ, zero, suc, ◌<◌, ◌≤◌}
use native.Mathlib.Omega.{arith}
use lib.Dec.{ltb, eqb}
use lib.ListN.{get_or}
use borrow.Author.Tests.{leb-true, eqb-false, ltb-true, lt-ltb, le-leb, ne_eqb}
use Rattle.plan.specs.declared.Header.{Header}
use Rattle.plan.specs.declared.Piece.{Piece}
use Rattle.plan.specs.declared.Component.{Component}
use Rattle.plan.specs.declared.Plan.{Plan}
use Rattle.plan.specs.Ranges.{most_n, header_fits, count_fits, idc_fits}
use Rattle.plan.specs.Rule7.{piece_places, pieces_used, no_piece, piece_fits, piece_empty, pivots_fit, pieces_fit, component_fits, usable, fitting}
use Rattle.plan.specs.Tables.{uses_mmr, has_mmr}
use Rattle.plan.proofs.Truths.{both, every-at, every_true}

-- two tests that hold where the other does
same : (a b : Bool) → (a ≡ true → b ≡ true) → (b ≡ true → a ≡ true) → a ≡ b
same true b f g = sym (f refl)
same false true f g = g refl
same false false f g = refl

on : (a b : Bool) → a ≡ true → b ≡ true → (a && b) ≡ true
on a b p q = rw (p, q)

-- ---- a piece
module _ (k : ℕ) (h : Header) (q : Piece) where
  piece-polynomial : piece_fits k h q ≡ true → not (eqb q.idc 1) ≡ true → piece_fits 0 h q ≡ true
  unfolding piece_fits
  piece-polynomial e n =
      let b = both (idc_fits k q.idc) _ e in
      on _ _ (le-leb q.idc 0 (least (eqb k 0) (leb-true _ _ b.0) (off (eqb q.idc 1) refl n))) b.1
    where
      off : (t : Bool) → eqb q.idc 1 ≡ t → not t ≡ true → q.idc ≡ 1 → ⊥
      off true e n = absurd (true≢false (sym n))
      off false e n = eqb-false _ _ e

      least : (t : Bool) → q.idc ≤ cond t 0 1 → (q.idc ≡ 1 → ⊥) → q.idc ≤ 0
      least true l n = l
      least false l n = go q.idc l n
        where
          go : (v : ℕ) → v ≤ 1 → (v ≡ 1 → ⊥) → v ≤ 0
          go zero l n = omega arith
          go (suc v) l n = absurd (n (omega arith))

  piece_any : piece_fits 0 h q ≡ true → (piece_fits k h q ≡ true) × (not (eqb q.idc 1) ≡ true)
  unfolding piece_fits
  piece_any e =
      let b = both (idc_fits 0 q.idc) _ e in
      let z : q.idc ≤ 0 = leb-true q.idc 0 b.0 in
      (on _ _ (le-leb q.idc (cond (eqb k 0) 0 1) (omega arith)) b.1, ap not (ne_eqb q.idc 1 (λ o. omega arith)))

-- ---- a component
module _ (k : ℕ) (h : Header) (c : Component) where
  abbrev piece : ℕ → Piece
  piece p = get_or c.pieces p no_piece

  abbrev place : ℕ → ℕ → Bool
  place j p = cond (ltb p (pieces_used c.n)) (piece_fits j h (piece p)) (piece_empty h (piece p))

  -- a place that is used is a piece's, the others are as they were
  place_from : (i j p : ℕ) → (piece_fits i h (piece p) ≡ true → p < pieces_used c.n → piece_fits j h (piece p) ≡ true) → place i p ≡ true → place j p ≡ true
  place_from i j p f e = go (ltb p (pieces_used c.n)) refl e
    where
      go : (t : Bool) → ltb p (pieces_used c.n) ≡ t → cond t (piece_fits i h (piece p)) (piece_empty h (piece p)) ≡ true → cond t (piece_fits j h (piece p)) (piece_empty h (piece p)) ≡ true
      go true l e = f e (ltb-true p _ l)
      go false l e = e

  used_fits : (j p : ℕ) → p < pieces_used c.n → place j p ≡ true → piece_fits j h (piece p) ≡ true
  used_fits j p l e = rw (lt-ltb p _ l) at e

  to_luma : pieces_fit k h c ≡ true → not (uses_mmr c) ≡ true → pieces_fit 0 h c ≡ true
  unfolding pieces_fit uses_mmr
  to_luma e n =
      every_true (place 0) piece_places
      (λ p b. place_from k 0 p (λ f l. piece-polynomial k h (piece p) f (every-at _ (pieces_used c.n) (twice _ n) p l)) (every-at (place k) piece_places e p b))
    where
      twice : (t : Bool) → not (not t) ≡ true → t ≡ true
      twice true e = refl
      twice false e = e

  from_luma : c.n ≤ most_n → pieces_fit 0 h c ≡ true → (pieces_fit k h c ≡ true) × (not (uses_mmr c) ≡ true)
  unfolding pieces_fit uses_mmr
  from_luma few e = (
    every_true (place k) piece_places (λ p b. place_from 0 k p (λ f l. (piece_any k h (piece p) f).0) (every-at (place 0) piece_places e p b)),
    ap (λ (t : Bool). not (not t)) (every_true _ (pieces_used c.n) (λ p l. (piece_any k h (piece p) (used_fits 0 p l (every-at (place 0) piece_places e p (omega arith)))).1)),
  )

  -- what passes rule 7 as component k and has no MMR piece passes it as luma, and the other way round
  pub as_luma : (usable k h c && not (uses_mmr c)) ≡ usable 0 h c
  unfolding component_fits
  as_luma =
      same _ _
      (λ e.
      let u = both (usable k h c) _ e in
      let f = both (header_fits h) _ u.0 in
      let n = both (count_fits c.n) _ f.1 in
      let v = both (pivots_fit h c) _ n.1 in
      let p = both (pieces_fit k h c) _ v.1 in
      rw (f.0, n.0, v.0, to_luma p.0 u.1, p.1))
      (λ e.
      let f = both (header_fits h) _ e in
      let n = both (count_fits c.n) _ f.1 in
      let v = both (pivots_fit h c) _ n.1 in
      let p = both (pieces_fit 0 h c) _ v.1 in
      let w = from_luma (leb-true c.n most_n n.0) p.0 in
      rw (f.0, n.0, v.0, w.0, p.1, w.1))

-- ---- a plan
pub all_luma : (p : Plan) → let h = p.header in (usable 0 h p.y && (usable 0 h p.cb && usable 0 h p.cr)) ≡ (fitting p && not (has_mmr p))
unfolding fitting has_mmr
all_luma p =
    let h = p.header in
    sym (ap₂ ◌&&◌ (as_luma 0 h p.y) (ap₂ ◌&&◌ (as_luma 1 h p.cb) (as_luma 2 h p.cr)))
    ∙ joined (header_fits h) (component_fits 0 h p.y) (component_fits 1 h p.cb) (component_fits 2 h p.cr) (uses_mmr p.y) (uses_mmr p.cb) (uses_mmr p.cr)
  where
    joined : (h y b r m n o : Bool) → (((h && y) && not m) && (((h && b) && not n) && ((h && r) && not o))) ≡ ((h && (y && (b && r))) && not (m || (n || o)))
    joined false y b r m n o = refl
    joined true false b r m n o = refl
    joined true true b r true n o = none (b && r)
      where
        none : (a : Bool) → false ≡ (a && false)
        none true = refl
        none false = refl
    joined true true false r false n o = refl
    joined true true true r false true o = none r
      where
        none : (a : Bool) → false ≡ (a && false)
        none true = refl
        none false = refl
    joined true true true r false false o = refl

-- where a plan passes rule 7 and has no MMR piece, a piece that is used is a polynomial
pub polynomial-at : (h : Header) (c : Component) → usable 0 h c ≡ true → (p : ℕ) → p < pieces_used c.n → (get_or c.pieces p no_piece).idc ≡ 0
unfolding component_fits pieces_fit piece_fits
polynomial-at h c e p l =
    let f = both (header_fits h) _ e in
    let n = both (count_fits c.n) _ f.1 in
    let v = both (pivots_fit h c) _ n.1 in
    let q = both (pieces_fit 0 h c) _ v.1 in
    let few : c.n ≤ most_n = leb-true c.n most_n n.0 in
    let fits = used_fits 0 h c 0 p l (every-at (place 0 h c 0) piece_places q.0 p (omega arith)) in
    let z : (get_or c.pieces p no_piece).idc ≤ 0 = leb-true _ 0 (both (idc_fits 0 (get_or c.pieces p no_piece).idc) _ fits).0 in
    omega arith
