-- What stands in the table of mapped samples, and that summed pivots and rows of three give it. Assumes nothing.
use mathlib.Core.Path.{◌≡◌, refl, sym, ap, ap₂, ◌∙◌}
use mathlib.Core.Bool.{Bool, true, false, ◌&&◌, cond}
use mathlib.Core.List.{List}
use Prim.Native.Nat.{ℕ, zero, suc, ◌+◌, ◌%◌, ◌<◌, ◌≤◌, ◌^◌}
use native.Mathlib.Nat.{lt_of_lt_of_le, mod-eq_of_lt}
use native.Mathlib.Omega.{arith}
use lib.IntN.{ℤ, nat_abs}
use lib.ListN.{length, get_or, take, replicate}
use Rattle.std.specs.Prelude.{Some, None}
use Rattle.std.specs.Option.{unwrap_or}
use Rattle.std.proofs.lemmas.List.{get_or-take, length-take}
use lib.Pow.{pow_pos, pow_mono}
use lib.Seq.{ext_get_or}
use Rattle.runs.specs.inner.Loops.{at}
use Rattle.runs.specs.inner.Tables.{table, coded}
use Rattle.runs.proofs.Tables.{length-table, at_table, coded_in, no_codes}
use Rattle.standard.specs.Parameters.{Mapping}
use Rattle.standard.specs.Mapping.{pivot_value, pivot_idx, clamped, mapped, polynomial, poly_sum, cut}
use Rattle.standard.proofs.Pieces.{idx_cong, idx_le}
use Rattle.standard.proofs.Polynomials.{by_three_terms}
use Rattle.plan.specs.declared.Header.{Header}
use Rattle.plan.specs.declared.Component.{Component}
use Rattle.plan.specs.Parameters.{mapping}
use Rattle.plan.specs.Ranges.{most_n, bl_depth}
use Rattle.plan.specs.Rule7.{every, pivot_places, piece_places, pieces_used, no_piece}
use Rattle.plan.specs.inner.Facts.{Arrays}
use Rattle.plan.proofs.Anywhere.{anywhere}
use Rattle.plan.proofs.Coefficients.{zero_abs}
use Rattle.plan.proofs.Truths.{both, every_cong}
use Rattle.mapping.specs.declared.copies.Polynomial.{Polynomial}
use Rattle.mapping.specs.inner.Copies.{coef, kept, no_polynomial, polynomial_of, row_of, Copied}
use Rattle.mapping.specs.inner.Mapped.{frame_maps, polynomial_maps, pieces_map, can_map, mapped_table, answer}
use Rattle.mapping.specs.inner.Steps.{ByRows, mapped_by, pivots_by, table_by}
use Rattle.mapping.proofs.Mappable.{frame_facts, pieces_facts}

-- the test of what is copied is that of the pieces
pub pieces_as : (c : Component) {polynomials : List Polynomial} → c.n ≤ most_n → Copied c.pieces polynomials piece_places → {n : ℕ} → n ≡ c.n + 2 → every (length (take n polynomials)) (λ p. let q = polynomial_of (take n polynomials) p in polynomial_maps q.order q.row) ≡ pieces_map c
pieces_as c {polynomials} few o {n} e =
    let long : length (take n polynomials) ≡ pieces_used c.n = omega (arith, length-take n polynomials, o.long) in
    rw long
    (every_cong (pieces_used c.n)
    (λ p b. ap (λ (q : Polynomial). polynomial_maps q.order q.row) (get_or-take n polynomials p no_polynomial (omega arith) ∙ o.each p (omega arith))))

-- the sum reads no other coefficient than those that are kept
kept_le : (row : List ℤ) {most : ℕ} → ((i : ℕ) → i < 3 → nat_abs (coef row i) ≤ most) → (i : ℕ) → nat_abs (coef (kept row) i) ≤ most
kept_le row b zero = b 0 (omega arith)
kept_le row b (suc zero) = b 1 (omega arith)
kept_le row b (suc (suc zero)) = b 2 (omega arith)
kept_le row b (suc (suc (suc i))) = omega arith

by_kept : (depth d t : ℕ) {row : List ℤ} (all : List ℤ) → row ≡ kept all → cut d (poly_sum depth t (coef row) 2) ≡ cut d (poly_sum depth t (coef all) 2)
unfolding poly_sum
by_kept depth d t all e = rw e

-- tables of the same codes
same_codes : (n m : ℕ) (f g : ℕ → ℕ) {u : Bool} → u ≡ true → ((j : ℕ) → f j ≡ g j) → table n (coded true m f) ≡ table n (coded u m g)
unfolding coded
same_codes n m f g e same =
    ext_get_or 0 _ _ (length-table n _ ∙ sym (length-table n _))
    (λ j b.
    let k : j < n = rw (length-table n (coded true m f)) at b in
    at_table n _ j k ∙ (rw (e, same j)) ∙ sym (at_table n _ j k))

-- of a component that can be mapped, with the rows of all pieces that are used
module _ (h : Header) (c : Component) (polynomials : List Polynomial) (frame : frame_maps h c.n c.preds ≡ true) (pieces : pieces_map c ≡ true) (read : Copied c.pieces polynomials piece_places) where
  row_is : (p : ℕ) → p < piece_places → row_of polynomials p ≡ kept (get_or c.pieces p no_piece).row
  row_is p b = ap (λ (q : Polynomial). q.row) (read.each p b)

  pub can_by_rows : Arrays c → ByRows (bl_depth h) c.n c.preds polynomials
  can_by_rows a =
      let f = frame_facts h c frame in
      record {
        count = f.count;
        pivot = anywhere (λ (v : ℕ). v < 2 ^ bl_depth h) c.preds 0 a.preds (pow_pos (bl_depth h)) f.pivot;
        coefficient = λ p i b. rw (row_is p (omega (arith, f.count))) (kept_le (get_or c.pieces p no_piece).row (pieces_facts c pieces p b).coefficient i);
      }

  -- the three terms with summed pivots are the standard's mapping
  mapped_is : (s : ℕ) → mapped_by (bl_depth h) h.d c.n (pivots_by c.preds) polynomials s ≡ mapped (bl_depth h) h.d (mapping c) s
  unfolding mapped_by mapped
  mapped_is s =
      let n = c.n in
      let few = (frame_facts h c frame).count in
      let pv = pivot_value (at c.preds) in
      let pivots = pivots_by c.preds in
      let p = pivot_idx pv n s in
      let k : p < pieces_used n = omega (arith, idx_le pv n s) in
      let q = get_or c.pieces p no_piece in
      let g = pieces_facts c pieces p k in
      let e : (i : ℕ) → i < pivot_places → at pivots i ≡ pv i = at_table pivot_places pv in
      ap (λ (p : ℕ). cut h.d (poly_sum (bl_depth h) (clamped (at pivots 0) (at pivots (n + 1)) s) (coef (row_of polynomials p)) 2))
      (idx_cong (at pivots) pv n s (λ i b. e i (omega arith)))
      ∙ ap₂ (λ (a b : ℕ). cut h.d (poly_sum (bl_depth h) (clamped a b s) (coef (row_of polynomials p)) 2)) (e 0 (omega arith)) (e (n + 1) (omega arith))
      ∙ by_kept (bl_depth h) h.d (clamped (pv 0) (pv (n + 1)) s) q.row (row_is p (omega arith))
      ∙ by_three_terms (bl_depth h) h.d _ (clamped (pv 0) (pv (n + 1)) s) (coef q.row) g.order (λ o. zero_abs _ (g.unused o))

  pub table_is : {entries : List ℕ} → entries ≡ table_by (bl_depth h) h.d c.n c.preds polynomials → Some entries ≡ answer h c
  unfolding mapped_table
  table_is e = ap Some (e ∙ same_codes 1024 (2 ^ bl_depth h) _ _ {u = can_map h c} (rw (frame, pieces)) mapped_is) ∙ sym (rw (frame, pieces) refl)

-- where it cannot be mapped
module _ (h : Header) (c : Component) where
  pub no_frame : frame_maps h c.n c.preds ≡ false → None ≡ answer h c
  no_frame e = rw e refl

  pub no_pieces : pieces_map c ≡ false → None ≡ answer h c
  no_pieces e = rw (neither (frame_maps h c.n c.preds) e)
    where
      neither : (a : Bool) {b : Bool} → b ≡ false → (a && b) ≡ false
      neither true e = e
      neither false e = refl

-- for whoever is handed the table, or takes zeros where there is none
pub is_mapped : (h : Header) (c : Component) {entries : List ℕ} → answer h c ≡ Some entries → (can_map h c ≡ true) × (entries ≡ mapped_table h c)
is_mapped h c e = go (can_map h c) refl e
  where
    go : {entries : List ℕ} (u : Bool) → can_map h c ≡ u → cond u (Some (mapped_table h c)) None ≡ Some entries → (can_map h c ≡ true) × (entries ≡ mapped_table h c)
    go true t e = (t, cc)
    go false t e = absurd (cc)

pub is_unmapped : (h : Header) (c : Component) → answer h c ≡ None → can_map h c ≡ false
is_unmapped h c e = go (can_map h c) refl e
  where
    go : (u : Bool) → can_map h c ≡ u → cond u (Some (mapped_table h c)) None ≡ None → can_map h c ≡ false
    go true t e = absurd (cc)
    go false t e = t

pub or_zeros : (h : Header) (c : Component) → unwrap_or (answer h c) (replicate 1024 0) ≡ mapped_table h c
unfolding mapped_table
or_zeros h c = go (can_map h c) refl
  where
    go : (u : Bool) → can_map h c ≡ u → unwrap_or (cond u (Some (mapped_table h c)) None) (replicate 1024 0) ≡ mapped_table h c
    go true t = refl
    go false t = no_codes 1024 _ _ t

-- for whoever looks a sample up
pub mapped-found : (h : Header) (c : Component) → can_map h c ≡ true → (s : ℕ) → s < 2 ^ bl_depth h → at (mapped_table h c) (s % 1024) ≡ mapped (bl_depth h) h.d (mapping c) s
unfolding mapped_table
mapped-found h c u s b =
    let k : s < 1024 = lt_of_lt_of_le b (pow_mono {j = 10} (frame_facts h c (both (frame_maps h c.n c.preds) _ u).0).shallow) in
    rw (mod-eq_of_lt k, at_table 1024 _ s k) (coded_in (2 ^ bl_depth h) _ s u b)

pub mapped_le : (depth d : ℕ) (m : Mapping) (s : ℕ) → mapped depth d m s ≤ 65535
unfolding mapped polynomial
mapped_le depth d m s = omega arith
