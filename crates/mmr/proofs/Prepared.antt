-- A component made ready maps as its pieces do. Assumes nothing.
use mathlib.Core.Path.{◌≡◌, refl, sym, ap, ap₂, ◌∙◌}
use mathlib.Core.Bool.{Bool, true, false, cond}
use mathlib.Core.List.{List}
use mathlib.Core.Logic.{⊎_elim}
use Prim.Native.Nat.{ℕ, ◌+◌, ◌-◌, ◌*◌, ◌<◌, ◌≤◌, zero-le}
use native.Mathlib.Nat.{le_trans, le_of_eq}
use native.Mathlib.Omega.{arith}
use lib.Dec.{leb, ltb, eqb}
use lib.IntN.{ℤ, pos, nat_abs}
use lib.ListN.{length}
use borrow.Author.Tests.{eqb-true, leb-true, le-ltb}
use Rattle.runs.specs.inner.Loops.{at}
use Rattle.std.proofs.lemmas.Bool.{cases_lt}
use Rattle.standard.specs.Mapping.{pivot_idx, cut}
use Rattle.standard.proofs.Pieces.{idx_le}
use Rattle.plan.specs.declared.Piece.{Piece}
use Rattle.plan.specs.declared.Component.{Component}
use Rattle.plan.specs.Ranges.{most_n}
use Rattle.plan.specs.Rule7.{is_zero, piece_places, row_places, pieces_used, coefficients_used, no_piece}
use Rattle.plan.proofs.Anywhere.{beyond}
use Rattle.plan.proofs.Coefficients.{zero_abs}
use Rattle.plan.proofs.Truths.{every-at}
use Rattle.steps.specs.inner.Steps.{pivot_table}
use Rattle.steps.proofs.Halving.{table_rises}
use Rattle.mmr.specs.inner.Apart.{coef, whole_sum, narrow_most, wide_most}
use Rattle.mmr.specs.declared.kind.Kind.{Kind}
use Rattle.mmr.specs.declared.kind.Kind.TheVariants.{Polynomial, Mmr, Broken}
use Rattle.mmr.specs.declared.kind.Width.TheVariants.{Narrow, Wide}
use Rattle.mmr.specs.declared.ready.Ready.{Ready}
use Rattle.mmr.specs.inner.Steps.{row_of, kind_at, piece_at, piece_value, mapped_side}
use Rattle.mmr.specs.inner.Given.{SideGiven}
use Rattle.mmr.specs.inner.Ready.{row_within, kind_by, kind_of, mapped_chroma, Highest}
use Rattle.mmr.specs.inner.Chroma.{ReadySide}
use Rattle.mmr.proofs.Meeting.{sum_zeros}

-- ---- what a kind says of its piece
abbrev by_tests : Bool → Bool → Bool → Bool → Kind
by_tests a b n w = cond a (cond n Polynomial Broken) (cond b (cond n (Mmr Narrow) (cond w (Mmr Wide) Broken)) Broken)

of_polynomial : (a b n w : Bool) → by_tests a b n w ≡ Polynomial → n ≡ true
of_polynomial true b true w q = refl
of_polynomial true b false w q = cc
of_polynomial false true true w q = cc
of_polynomial false true false true q = cc
of_polynomial false true false false q = cc
of_polynomial false false n w q = cc

of_narrow : (a b n w : Bool) → by_tests a b n w ≡ Mmr Narrow → (b ≡ true) × (n ≡ true)
of_narrow true b true w q = absurd (cc)
of_narrow true b false w q = absurd (cc)
of_narrow false true true w q = (refl, refl)
of_narrow false true false true q = absurd (cc)
of_narrow false true false false q = absurd (cc)
of_narrow false false n w q = absurd (cc)

of_wide : (a b n w : Bool) → by_tests a b n w ≡ Mmr Wide → (b ≡ true) × (w ≡ true)
of_wide true b true w q = absurd (cc)
of_wide true b false w q = absurd (cc)
of_wide false true true w q = absurd (cc)
of_wide false true false true q = (refl, refl)
of_wide false true false false q = absurd (cc)
of_wide false false n w q = absurd (cc)

module _ (d : ℕ) (q : Piece) where
  abbrev used : ℕ
  used = coefficients_used q.idc q.order

  pub polynomial-row : kind_of d q ≡ Polynomial → row_within narrow_most used q.row ≡ true
  unfolding kind_by
  polynomial-row e = of_polynomial (eqb q.idc 0) (eqb q.idc 1) (row_within narrow_most used q.row) (row_within (wide_most d) used q.row) e

  pub narrow-row : kind_of d q ≡ Mmr Narrow → (eqb q.idc 1 ≡ true) × (row_within narrow_most used q.row ≡ true)
  unfolding kind_by
  narrow-row e = of_narrow (eqb q.idc 0) (eqb q.idc 1) (row_within narrow_most used q.row) (row_within (wide_most d) used q.row) e

  pub wide_row : kind_of d q ≡ Mmr Wide → (eqb q.idc 1 ≡ true) × (row_within (wide_most d) used q.row ≡ true)
  unfolding kind_by
  wide_row e = of_wide (eqb q.idc 0) (eqb q.idc 1) (row_within narrow_most used q.row) (row_within (wide_most d) used q.row) e

-- ---- what a row within a limit has
module _ (most used : ℕ) (row : List ℤ) (long : length row ≡ row_places) (e : row_within most used row ≡ true) where
  place : (i : ℕ) → i < row_places → cond (ltb i used) (leb (nat_abs (coef row i)) most) (is_zero (coef row i)) ≡ true
  unfolding row_within
  place i b = every-at _ row_places e i b

  low : (t : Bool) (z : ℤ) → cond t (leb (nat_abs z) most) (is_zero z) ≡ true → nat_abs z ≤ most
  low true z q = leb-true (nat_abs z) most q
  low false z q = omega (arith, eqb-true (nat_abs z) 0 q)

  pub row_low : (i : ℕ) → nat_abs (coef row i) ≤ most
  row_low i = ⊎_elim (λ b. low (ltb i used) (coef row i) (place i b)) (λ b. past (beyond row (pos 0) i (omega (arith, long)))) (cases_lt i row_places)
    where
      past : coef row i ≡ pos 0 → nat_abs (coef row i) ≤ most
      past z = rw z zero-le

  -- beyond the coefficients that are used there is 0
  pub row_ends : (i : ℕ) → used ≤ i → i < row_places → coef row i ≡ pos 0
  row_ends i h b = zero_abs (coef row i) (eqb-true _ 0 (rw (le-ltb i used h) at (place i b)))

-- ---- a side that is ready
module _ (d : ℕ) (c : Component) (s : Ready) (g : ReadySide d c s) where
  count : c.n ≤ most_n
  count = g.few

  same_row : (p : ℕ) → row_of s p ≡ (piece_at c p).row
  same_row p = ap (λ (x : Component). (piece_at x p).row) g.component

  -- a coefficient of a piece that is used, or of none
  coefficient : (most : ℕ) (kind : Kind) → (kind ≡ Broken → ⊥) → ((q : Piece) → kind_of d q ≡ kind → row_within most (coefficients_used q.idc q.order) q.row ≡ true) → (p : ℕ) → kind_at s p ≡ kind → (i : ℕ) → nat_abs (coef (row_of s p) i) ≤ most
  coefficient most kind other says p e i = le_trans (le_of_eq (ap (λ (r : List ℤ). nat_abs (coef r i)) (same_row p))) (⊎_elim of_used (λ h. ⊎_elim (λ b. absurd (other (sym e ∙ g.kinds.rest p h b))) none (cases_lt p piece_places)) (cases_lt p (pieces_used c.n)))
    where
      of_used : p < pieces_used c.n → nat_abs (coef (piece_at c p).row i) ≤ most
      of_used h =
          let q = piece_at c p in
          let inside : p < piece_places = omega (arith, count) in
          row_low most (coefficients_used q.idc q.order) q.row (g.arrays.row p inside) (says q (sym (g.kinds.done p h) ∙ e)) i

      none : piece_places ≤ p → nat_abs (coef (piece_at c p).row i) ≤ most
      none h = empty (beyond c.pieces no_piece p (omega (arith, g.arrays.pieces)))
        where
          empty : piece_at c p ≡ no_piece → nat_abs (coef (piece_at c p).row i) ≤ most
          empty z = rw z zero-le

  pub ready_given : SideGiven d s
  ready_given =
      record {
        few = rw g.component count;
        rising = rw g.pivots (table_rises c.preds);
        row = λ p. record {
          polynomial = coefficient narrow_most Polynomial (λ z. cc) (polynomial-row d) p;
          narrow = coefficient narrow_most (Mmr Narrow) (λ z. cc) (λ q e. (narrow-row d q e).1) p;
          wide = coefficient (wide_most d) (Mmr Wide) (λ z. cc) (λ q e. (wide_row d q e).1) p;
        };
      }

  -- the sum over a piece's terms ends with its order
  module _ (order : ℕ) (top : Highest c (pieces_used c.n) order) (p : ℕ) (h : p < pieces_used c.n) (t : ℕ) (ts : List ℕ) where
    abbrev q : Piece
    q = piece_at c p

    inside : p < piece_places
    inside = omega (arith, count)

    ends : (most : ℕ) → eqb q.idc 1 ≡ true → row_within most (coefficients_used q.idc q.order) q.row ≡ true → whole_sum (coef q.row) (at ts) (7 * order + 1) ≡ whole_sum (coef q.row) (at ts) (7 * 3 + 1)
    ends most i e =
        let idc = eqb-true q.idc 1 i in
        let few = top.most in
        let k : 7 * order + 1 + (22 - (7 * order + 1)) ≡ 7 * 3 + 1 = omega arith in
        sym (sum_zeros (coef q.row) (at ts) (7 * order + 1) (22 - (7 * order + 1))
        (λ j a b. row_ends most (coefficients_used q.idc q.order) q.row (g.arrays.row p inside) e j (beyond_order idc j a (omega arith)) (omega arith)))
        ∙ ap (whole_sum (coef q.row) (at ts)) k
      where
        beyond_order : q.idc ≡ 1 → (j : ℕ) → 7 * order + 1 ≤ j → j < 22 → coefficients_used q.idc q.order ≤ j
        beyond_order z j a b = rw z (omega (arith, top.mmr p h z, top.most))

    same_value : (kind : Kind) → kind_of d q ≡ kind → piece_value order d kind q.row t ts ≡ piece_value 3 d kind q.row t ts
    unfolding piece_value
    same_value Polynomial e = refl
    same_value (Mmr Narrow) e = let r = narrow-row d q e in ap (cut d) (ends narrow_most r.0 r.1)
    same_value (Mmr Wide) e = let r = wide_row d q e in ap (cut d) (ends (wide_most d) r.0 r.1)
    same_value Broken e = refl

  pub ready_maps : (order : ℕ) → Highest c (pieces_used c.n) order → (x t : ℕ) (ts : List ℕ) → mapped_side order d s x t ts ≡ mapped_chroma d c x t ts
  unfolding mapped_side mapped_chroma
  ready_maps order top x t ts =
      let p = pivot_idx (at (pivot_table c.preds)) c.n x in
      let few : p < pieces_used c.n = omega (arith, idx_le (at (pivot_table c.preds)) c.n x) in
      let e : pivot_idx (at s.pivots) s.component.now.n x ≡ p = ap₂ (λ (l : List ℕ) (k : Component). pivot_idx (at l) k.n x) g.pivots g.component in
      ap (λ (i : ℕ). piece_value order d (kind_at s i) (row_of s i) t ts) e
      ∙ ap₂ (λ (k : Kind) (r : List ℤ). piece_value order d k r t ts) (g.kinds.done p few) (same_row p)
      ∙ same_value order top p few t ts (kind_of d (piece_at c p)) refl
