-- By a plan that passes rule 7 a chroma sample is mapped as the standard has it. Assumes nothing.
use mathlib.Core.Path.{◌≡◌, refl, sym, ap, ap₂, ◌∙◌}
use mathlib.Core.Bool.{Bool, true, false, cond}
use mathlib.Core.List.{List}
use Prim.Native.Nat.{ℕ, zero, suc, ◌+◌, ◌-◌, ◌*◌, ◌/◌, ◌^◌, ◌<◌, ◌≤◌}
use native.Mathlib.Nat.{le_trans, le_of_eq, lt_of_lt_of_le, mul-le-mul_left}
use native.Mathlib.Omega.{arith}
use lib.Dec.{leb, ltb, eqb}
use lib.IntN.{ℤ, pos, nat_abs, ◌+ℤ◌, ◌-ℤ◌}
use lib.Pow.{pow_mono}
use borrow.Author.Tests.{leb-true, le-leb, lt-ltb, eq-eqb, ltb-false}
use Rattle.runs.specs.inner.Loops.{at}
use Rattle.standard.specs.Mapping.{pivot_value, pivot_idx, clamped, cut, mapped}
use Rattle.standard.specs.Mmr.{◌<<◌, terms, mmr_sum, mmr, to_pivots, mmr_mapped, chroma_mapped, row_sum, down_sampled, inside}
use Rattle.standard.proofs.Pieces.{idx_cong, idx_le}
use Rattle.standard.proofs.Polynomials.{three-terms, by_three_terms}
use Rattle.plan.specs.declared.Header.{Header}
use Rattle.plan.specs.declared.Piece.{Piece}
use Rattle.plan.specs.declared.Component.{Component}
use Rattle.plan.specs.declared.Plan.{Plan}
use Rattle.plan.specs.Parameters.{mapping, mmr_piece}
use Rattle.plan.specs.Ranges.{bl_depth, integer_limit}
use Rattle.plan.specs.Rule7.{is_zero, piece_places, row_places, coefficients_used}
use Rattle.plan.specs.inner.Facts.{HeaderFacts, PieceFacts, ComponentFacts}
use Rattle.plan.proofs.Truths.{every_true}
use Rattle.steps.specs.inner.Steps.{pivot_table}
use Rattle.steps.proofs.Small.{pivot-at}
use Rattle.mmr.specs.inner.Apart.{coef, whole_sum, narrow_most, wide_most}
use Rattle.mmr.specs.inner.Luma.{row_from, luma_beside}
use Rattle.mmr.specs.declared.kind.Kind.TheVariants.{Polynomial, Mmr}
use Rattle.mmr.specs.declared.kind.Width.TheVariants.{Narrow, Wide}
use Rattle.mmr.specs.inner.Steps.{piece_at, piece_value}
use Rattle.mmr.specs.inner.Columns.{code_of}
use Rattle.mmr.specs.inner.Ready.{row_within, kind_by, kind_of, mapped_chroma}
use Rattle.mmr.specs.inner.Chroma.{ends_of}
use Rattle.mmr.proofs.Powers.{square_raised}
use Rattle.mmr.proofs.Meeting.{sum_zeros, mmr_sum_is}

-- ---- pivots and codes
module _ (k : ℕ) (h : Header) (c : Component) (g : ComponentFacts k h c) (f : HeaderFacts h) where
  deep : 2 ^ bl_depth h ≤ 2 ^ 10
  deep = pow_mono {j = 10} (omega (arith, f.base_depth))

  -- the pivots that are used are sums
  pivot_is : (i : ℕ) → i ≤ c.n + 1 → at (pivot_table c.preds) i ≡ pivot_value (at c.preds) i
  pivot_is i b = pivot-at c.preds i (omega (arith, g.count)) (λ j l. lt_of_lt_of_le (g.pivot j (omega (arith, g.count))) deep)

  pub piece_is : (s : ℕ) → pivot_idx (at (pivot_table c.preds)) c.n s ≡ pivot_idx (pivot_value (mapping c).pred_pivot_value) c.n s
  piece_is s = idx_cong (at (pivot_table c.preds)) (pivot_value (at c.preds)) c.n s pivot_is

  -- a sample that is clamped is still a code
  lowest : pivot_value (at c.preds) 0 < 2 ^ bl_depth h
  unfolding pivot_value
  lowest = g.pivot 0 (omega arith)

  pub code_is : (s : ℕ) → s < 2 ^ bl_depth h → code_of (2 ^ bl_depth h) (ends_of c) s ≡ to_pivots (mapping c) s
  code_is s b =
      let pv = pivot_value (at c.preds) in
      let e : clamped (at (pivot_table c.preds) 0) (at (pivot_table c.preds) (c.n + 1)) s ≡ clamped (pv 0) (pv (c.n + 1)) s =
      ap₂ (λ (x y : ℕ). clamped x y s) (pivot_is 0 (omega arith)) (pivot_is (c.n + 1) (omega arith)) in
      let t : clamped (pv 0) (pv (c.n + 1)) s < 2 ^ bl_depth h = omega (arith, lowest) in
      rw e (rw (lt-ltb _ _ t) refl)

  pub to_pivots_low : (s : ℕ) → s < 2 ^ bl_depth h → to_pivots (mapping c) s < 2 ^ bl_depth h
  to_pivots_low s b = omega (arith, lowest)

-- ---- rows of pieces
module _ (k : ℕ) (h : Header) (q : Piece) (g : PieceFacts k h q) (f : HeaderFacts h) where
  abbrev used : ℕ
  used = coefficients_used q.idc q.order

  -- a limit that its integer parts keep is one of its row
  within : (most : ℕ) → integer_limit q.idc * 2 ^ h.d ≤ most → row_within most used q.row ≡ true
  unfolding row_within
  within most l = every_true _ row_places (λ i b. place i b (ltb i used) refl)
    where
      place : (i : ℕ) → i < row_places → (t : Bool) → ltb i used ≡ t → cond t (leb (nat_abs (coef q.row i)) most) (is_zero (coef q.row i)) ≡ true
      place i b true e = le-leb _ most (le_trans (g.coefficient i b) l)
      place i b false e = eq-eqb _ 0 (ap nat_abs (g.unused i (ltb-false i used e) b))

  narrow-limit : q.idc ≡ 0 → integer_limit q.idc * 2 ^ h.d ≤ narrow_most
  narrow-limit z = rw z (le_trans (mul-le-mul_left 64 (pow_mono {j = 32} f.shallow)) (omega arith))

  wide-limit : q.idc ≡ 1 → integer_limit q.idc * 2 ^ h.d ≤ wide_most h.d
  wide-limit z = rw z (le_of_eq refl)

  -- the sum of a piece: what it is of, by its method
  pub polynomial_is : q.idc ≡ 0 → kind_of h.d q ≡ Polynomial
  unfolding kind_by
  polynomial_is z = rw (z, rw z at (within narrow_most (narrow-limit z))) refl

  pub mmr_value : q.idc ≡ 1 → (t : ℕ) (ts : List ℕ) → piece_value 3 h.d (kind_of h.d q) q.row t ts ≡ cut h.d (whole_sum (coef q.row) (at ts) 22)
  unfolding kind_by piece_value
  mmr_value z t ts = rw (z, rw z at (within (wide_most h.d) (wide-limit z))) (either (row_within narrow_most (7 * (q.order + 1) + 1) q.row))
    where
      either : (u : Bool) → piece_value 3 h.d (cond u (Mmr Narrow) (Mmr Wide)) q.row t ts ≡ cut h.d (whole_sum (coef q.row) (at ts) 22)
      either true = refl
      either false = refl

  -- the standard's sum
  pub mmr_is : q.idc ≡ 1 → (ts : List ℕ) → whole_sum (coef q.row) (at ts) 22 ≡ mmr_sum (mmr_piece q).fp_mmr_constant (mmr_piece q).fp_mmr_coef (at ts) (q.order + 1)
  mmr_is z ts =
      let o : q.order ≤ 2 = leb-true q.order 2 (rw z at g.order) in
      let e : 7 * (q.order + 1) + 1 + (22 - (7 * (q.order + 1) + 1)) ≡ 22 = omega arith in
      ap (whole_sum (coef q.row) (at ts)) (sym e)
      ∙ sum_zeros (coef q.row) (at ts) (7 * (q.order + 1) + 1) (22 - (7 * (q.order + 1) + 1)) (λ i a b. (rw z at g.unused) i a (omega arith))
      ∙ sym (mmr_sum_is (coef q.row) (at ts) (q.order + 1))

-- ---- a sample of one component
module _ (k : ℕ) (h : Header) (c : Component) (g : ComponentFacts k h c) (f : HeaderFacts h) (s own : ℕ) (y0 y1 y2 : ℕ) where
  abbrev ts : List ℕ
  ts = terms (bl_depth h) y0 y1 y2

  abbrev p : ℕ
  p = pivot_idx (pivot_value (mapping c).pred_pivot_value) c.n s

  abbrev q : Piece
  q = piece_at c p

  few : p < piece_places
  few = omega (arith, idx_le (pivot_value (mapping c).pred_pivot_value) c.n s, g.count)

  facts : PieceFacts k h q
  facts = g.piece p few

  of_polynomial : at ts own ≡ to_pivots (mapping c) s << (20 - bl_depth h) → q.idc ≡ 0 → piece_value 3 h.d (kind_of h.d q) q.row (at ts own) ts ≡ mapped (bl_depth h) h.d (mapping c) s
  unfolding piece_value mapped
  of_polynomial e z =
      let x = to_pivots (mapping c) s in
      let o : q.order ≤ 1 = leb-true q.order 1 (rw z at facts.order) in
      rw (polynomial_is k h q facts f z, e)
      (ap (cut h.d) (three-terms (bl_depth h) x (coef q.row) (pos (x * 2 ^ (20 - bl_depth h))) (pos ((x * 2 ^ (20 - bl_depth h)) * (x * 2 ^ (20 - bl_depth h)) / 2 ^ 20)) refl (ap pos (square_raised (bl_depth h) x (omega (arith, f.base_depth)))))
      ∙ by_three_terms (bl_depth h) h.d q.order x (coef q.row) o (λ w. (rw z at facts.unused) 2 (omega arith) (omega arith)))

  of_mmr : q.idc ≡ 1 → piece_value 3 h.d (kind_of h.d q) q.row (at ts own) ts ≡ mmr (bl_depth h) h.d (mmr_piece q) y0 y1 y2
  unfolding mmr
  of_mmr z = mmr_value k h q facts f z (at ts own) ts ∙ ap (cut h.d) (mmr_is k h q facts f z ts)

  by_method : at ts own ≡ to_pivots (mapping c) s << (20 - bl_depth h) → (i : ℕ) → q.idc ≡ i → i ≤ 1 → piece_value 3 h.d (kind_of h.d q) q.row (at ts own) ts ≡ cond (eqb i 1) (mmr (bl_depth h) h.d (mmr_piece q) y0 y1 y2) (mapped (bl_depth h) h.d (mapping c) s)
  by_method e zero z b = of_polynomial e z
  by_method e (suc zero) z b = of_mmr z
  by_method e (suc (suc i)) z b = absurd (omega arith)

  at_most : (t : Bool) (v : ℕ) → leb v (cond t 0 1) ≡ true → v ≤ 1
  at_most true v e = omega (arith, leb-true v 0 e)
  at_most false v e = leb-true v 1 e

  pub sample_is : at ts own ≡ to_pivots (mapping c) s << (20 - bl_depth h) → mapped_chroma h.d c s (at ts own) ts ≡ cond (eqb ((mapping c).mapping_idc p) 1) (mmr (bl_depth h) h.d ((mapping c).mmr p) y0 y1 y2) (mapped (bl_depth h) h.d (mapping c) s)
  unfolding mapped_chroma
  sample_is e =
      ap (λ (i : ℕ). piece_value 3 h.d (kind_of h.d (piece_at c i)) (piece_at c i).row (at ts own) ts) (piece_is k h c g f s)
      ∙ by_method e q.idc refl (at_most (eqb k 0) q.idc facts.idc)

-- ---- by a plan: three samples that are codes
module _ (p : Plan) (f : HeaderFacts p.header) (gy : ComponentFacts 0 p.header p.y) (g1 : ComponentFacts 1 p.header p.cb) (g2 : ComponentFacts 2 p.header p.cr) (s0 s1 s2 : ℕ) (b0 : s0 < 2 ^ bl_depth p.header) (b1 : s1 < 2 ^ bl_depth p.header) (b2 : s2 < 2 ^ bl_depth p.header) where
  abbrev h : Header
  h = p.header

  abbrev codes : List ℕ
  codes = terms (bl_depth h) (code_of (2 ^ bl_depth h) (ends_of p.y) s0) (code_of (2 ^ bl_depth h) (ends_of p.cb) s1) (code_of (2 ^ bl_depth h) (ends_of p.cr) s2)

  abbrev clamps : List ℕ
  clamps = terms (bl_depth h) (to_pivots (mapping p.y) s0) (to_pivots (mapping p.cb) s1) (to_pivots (mapping p.cr) s2)

  same_codes : codes ≡ clamps
  same_codes = rw (code_is 0 h p.y gy f s0 b0, code_is 1 h p.cb g1 f s1 b1, code_is 2 h p.cr g2 f s2 b2) refl

  own_cb : at clamps 2 ≡ to_pivots (mapping p.cb) s1 << (20 - bl_depth h)
  unfolding terms
  own_cb = refl

  own_cr : at clamps 3 ≡ to_pivots (mapping p.cr) s2 << (20 - bl_depth h)
  unfolding terms
  own_cr = refl

  pub cb_means : mapped_chroma h.d p.cb s1 (at codes 2) codes ≡ chroma_mapped (bl_depth h) h.d (mapping p.y) (mapping p.cb) (mapping p.cr) (mapping p.cb) s1 s0 s1 s2
  unfolding chroma_mapped mmr_mapped
  cb_means = ap (λ (l : List ℕ). mapped_chroma h.d p.cb s1 (at l 2) l) same_codes ∙ sample_is 1 h p.cb g1 f s1 2 _ _ _ own_cb

  pub cr_means : mapped_chroma h.d p.cr s2 (at codes 3) codes ≡ chroma_mapped (bl_depth h) h.d (mapping p.y) (mapping p.cb) (mapping p.cr) (mapping p.cr) s2 s0 s1 s2
  unfolding chroma_mapped mmr_mapped
  cr_means = ap (λ (l : List ℕ). mapped_chroma h.d p.cr s2 (at l 3) l) same_codes ∙ sample_is 2 h p.cr g2 f s2 3 _ _ _ own_cr

-- ---- luma
module _ (run : List ℕ) (w upper i m : ℕ) (few : 2 * i + 1 < w) (above : (x : ℕ) → x < w → at run (upper + x) < m) (below : (x : ℕ) → x < w → at run (upper + w + x) < m) where
  within-row : (x : ℤ) → inside w x < w
  within-row x = omega arith

  average : (s : ℕ → ℕ) → ((x : ℕ) → x < w → s x < m) → row_sum w s i < m
  unfolding row_sum
  average s low = let x = pos (2 * i) in omega (arith, low _ (within-row (x -ℤ pos 1)), low _ (within-row x), low _ (within-row (x +ℤ pos 1)))

  pub luma_low : luma_beside run w upper i < m
  unfolding luma_beside down_sampled
  luma_low = omega (arith, average (row_from run upper) above, average (row_from run (upper + w)) below)
