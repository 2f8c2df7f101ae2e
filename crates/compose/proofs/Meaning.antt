-- By tables, or chroma by MMR, each sample of a plane is the composed one, and the planes together are the picture. Assumes nothing.
use mathlib.Core.Path.{◌≡◌, refl, sym, ap, ◌∙◌}
use mathlib.Core.Bool.{Bool, true, false, ◌&&◌, cond}
use mathlib.Core.List.{List, []}
use Prim.Native.Nat.{ℕ, ◌+◌, ◌*◌, ◌%◌, ◌^◌, ◌<◌, ◌≤◌}
use native.Mathlib.Nat.{mul_assoc, mul-le-mul_left}
use native.Mathlib.Omega.{arith}
use lib.Dec.{ltb}
use lib.IntN.{pos}
use lib.ListN.{length, get_or, get_or-replicate}
use borrow.Author.Tests.{leb-true}
use Rattle.runs.specs.Runs.{painted, between}
use Rattle.runs.specs.inner.Loops.{at}
use Rattle.runs.proofs.Between.{between_true}
use Rattle.runs.proofs.Painting.{length-painted}
use Rattle.runs.specs.inner.Tables.{coded}
use Rattle.runs.proofs.Tables.{length-table}
use Rattle.marks.specs.inner.Marks.{not_full}
use Rattle.marks.proofs.Keeping.{not_full_named, without_marks}
use Rattle.standard.specs.Mapping.{pivot_value, pivot_idx, mapped}
use Rattle.standard.specs.Mmr.{chroma_mapped}
use Rattle.standard.specs.Residual.{residual, reconstructed}
use Rattle.standard.proofs.Pieces.{idx_le}
use Rattle.picture.specs.declared.Extent.{Extent}
use Rattle.picture.specs.declared.Plane.{Plane}
use Rattle.picture.specs.Picture.{luma_size, chroma_size, of_plane, pair_at}
use Rattle.picture.specs.inner.Planes.{luma_plane, cb_plane, cr_plane, row_start, in_rows, InPicture}
use Rattle.picture.proofs.Rows.{rows_between, rows_among}
use Rattle.picture.proofs.Three.{luma_four, in_luma_plane, in_cb_plane, in_cr_plane, painted-planes, of_plane_ap}
use Rattle.plan.specs.declared.Header.{Header}
use Rattle.plan.specs.declared.Nlq.{Nlq}
use Rattle.plan.specs.declared.Component.{Component}
use Rattle.plan.specs.declared.Plan.{Plan}
use Rattle.plan.specs.Parameters.{mapping, quantization}
use Rattle.plan.specs.Ranges.{bl_depth, el_depth, hdr_depth, header_fits}
use Rattle.plan.specs.Rule7.{pieces_used, no_piece, nlq_fits, usable, fitting}
use Rattle.plan.proofs.Facts.{component_facts, nlq_of, y_usable, cb_usable, cr_usable}
use Rattle.plan.proofs.Truths.{both}
use Rattle.mapping.specs.inner.Mapped.{frame_maps, can_map, mapped_table}
use Rattle.mapping.proofs.Mappable.{pieces_facts, usable_maps}
use Rattle.mapping.proofs.Meaning.{mapped-found, mapped_le}
use Rattle.residual.specs.inner.Raising.{raised}
use Rattle.residual.specs.inner.Tables.{residual_table, no_residual, cut_numbers}
use Rattle.residual.proofs.Meaning.{raised-found, residual_small, cut-found}
use Rattle.spans.specs.inner.Spans.{entry}
use Rattle.sums.specs.inner.Sums.{cut_of}
use Rattle.rules.specs.Rules.{extent, used}
use Rattle.rows.specs.declared.Rows.{Rows}
use Rattle.rows.specs.inner.Rows.{RowsIn}
use Rattle.mmr.specs.inner.Chroma.{chroma_after}
use Rattle.planes.specs.inner.ByTables.{plain_plane, enhanced_plane, three, by_tables, plain_mixed, enhanced_mixed, plain_picture, enhanced_picture}
use Rattle.compose.specs.Composing.{chroma_at, mapped_at, residual_at, composed_by, composed_at}
use Rattle.compose.proofs.Samples.{apart, CodesIn, CodesInPicture, luma_mapped, cb_mapped, cr_mapped, plain_at, enhanced-at, three-mapped}
use Rattle.compose.proofs.Planes.{Has, in_luma, in_cb, in_cr}
use Rattle.compose.proofs.Planes as by_table
use Rattle.compose.proofs.Chroma.{chroma_le, both-painted}

-- ---- a component of polynomials
-- luma has no other pieces
luma_polynomials : (h : Header) (c : Component) → usable 0 h c ≡ true → (p : ℕ) → p < pieces_used c.n → (get_or c.pieces p no_piece).idc ≡ 0
luma_polynomials h c ok p b =
    let g = component_facts 0 h c (both (header_fits h) _ ok).1 in
    let v = (get_or c.pieces p no_piece).idc in
    let z : v ≤ 0 = leb-true v 0 (g.piece p (omega (arith, g.count))).idc in
    omega arith

-- a chroma sample of a component that goes by a table goes by itself alone
pub chroma_alone : (p : Plan) (base : List ℕ) (c : Component) → can_map p.header c ≡ true → (s j : ℕ) → chroma_at p base c s j ≡ mapped (bl_depth p.header) p.header.d (mapping c) s
unfolding chroma_at chroma_mapped
chroma_alone p base c can s j =
    let q = pivot_idx (pivot_value (mapping c).pred_pivot_value) c.n s in
    let pieces = (both (frame_maps p.header c.n c.preds) _ can).1 in
    let z : (mapping c).mapping_idc q ≡ 0 = (pieces_facts c pieces q (omega (arith, idx_le (pivot_value (mapping c).pred_pivot_value) c.n s))).method in
    rw z refl

-- ---- one plane by a table that was made for it
module _ (h : Header) (c : Component) (p : Plane) (r : Rows) (fit : header_fits h ≡ true) (can : can_map h c ≡ true) (output base : List ℕ) (m : ℕ → ℕ) (is : (i : ℕ) → mapped (bl_depth h) h.d (mapping c) (at base i) ≡ m i) (g : CodesIn p r (2 ^ bl_depth h) base) (o : RowsIn p r output) where
  -- it has a place for every code
  has : Has p r (mapped_table h c) base m
  unfolding mapped_table
  has = record { long = λ i s. rw (length-table 1024 (coded (can_map h c) (2 ^ bl_depth h) (mapped (bl_depth h) h.d (mapping c)))) (omega arith); is = λ i s. mapped-found h c can (at base i) (g.code i s) ∙ is i }

  plain_plane-painted : (marks : List ℕ) → plain_plane h r marks base c p output ≡ painted (in_rows p (not_full r.first r.last marks)) (plain_at h m) output
  plain_plane-painted = by_table.plain_painted h p r (mapped_table h c) base output m fit has g.rows o

  enhanced_plane-painted : (header_fits h && nlq_fits h c.nlq) ≡ true → (enhancement : List ℕ) → CodesIn p r (2 ^ el_depth h) enhancement → enhanced_plane h r base enhancement c p output ≡ painted (in_rows p (between r.first r.last)) (enhanced-at h enhancement c.nlq m) output
  enhanced_plane-painted u enhancement g' =
      by_table.enhanced-painted h p r (mapped_table h c) base output m fit has g.rows o c.nlq u
      (λ i s. rw (sym (is i)) (mapped_le (bl_depth h) h.d (mapping c) (at base i))) enhancement g'

-- where each plane is painted, whatever was written before it, the picture is
module _ (p : Plan) (r : Rows) (output : List ℕ) (g : InPicture (extent p.header) r.first r.last (length output)) where
  abbrev e : Extent
  e = extent p.header

  -- at some of the row pairs that are named
  module _ (selected : ℕ → Bool) (named : (k : ℕ) → selected k ≡ true → between r.first r.last k ≡ true) where
    abbrev rows_of : Plane → ℕ → Bool
    rows_of q = in_rows q selected

    -- three paintings, one over the other
    over : (y cb cr : ℕ → ℕ) → painted (rows_of (cr_plane e)) cr (painted (rows_of (cb_plane e)) cb (painted (rows_of (luma_plane e)) y output)) ≡ painted (λ i. selected (pair_at e i)) (λ i. of_plane e i (y i) (cb i) (cr i)) output
    over y cb cr = painted-planes e g.some_columns selected (λ k h. omega (arith, between_true r.first r.last k (named k h), g.within)) y cb cr output

    abbrev Paints : (Component → Plane → List ℕ → List ℕ) → Component → Plane → (ℕ → ℕ) → Type 0
    Paints plane c q v = (o : List ℕ) → RowsIn q r o → plane c q o ≡ painted (rows_of q) v o

    three-painted : (plane : Component → Plane → List ℕ → List ℕ) (y cb cr : ℕ → ℕ) → Paints plane p.y (luma_plane e) y → Paints plane p.cb (cb_plane e) cb → Paints plane p.cr (cr_plane e) cr → three p plane output ≡ painted (λ i. selected (pair_at e i)) (λ i. of_plane e i (y i) (cb i) (cr i)) output
    three-painted plane vy vb vr y cb cr =
        let one = y output (in_luma_plane e _ _ _ g) in
        let luma = plane p.y (luma_plane e) output in
        let m : length luma ≡ length output = ap length one ∙ length-painted _ _ output in
        let two = cb luma (rw m (in_cb_plane e _ _ _ g)) in
        let both = plane p.cb (cb_plane e) luma in
        let n : length both ≡ length output = ap length two ∙ length-painted _ _ luma ∙ m in
        cr both (rw n (in_cr_plane e _ _ _ g)) ∙ ap (painted _ _) (two ∙ ap (painted _ _) one) ∙ over vy vb vr

    -- where a selected sample of a plane lies
    lies_at : (q : Plane) → 1 ≤ q.row → (i : ℕ) → rows_of q i ≡ true → (row_start q r.first ≤ i) × (i < row_start q r.last)
    lies_at q some i t = between_true _ _ i (sym (rows_between q r.first r.last i some) ∙ rows_among q selected i _ named t)

    -- that of a chroma plane is none of luma's
    luma_apart : (i : ℕ) → rows_of (luma_plane e) i ≡ true → i < luma_size e
    luma_apart i t =
        let four = luma_four e in
        let top = mul-le-mul_left (4 * e.columns) g.within in
        let m = mul_assoc 4 e.columns e.pairs in
        omega (arith, lies_at (luma_plane e) (in_luma_plane e _ _ _ g).some_columns i t)

    not_luma : (i : ℕ) (x : Bool) → (x ≡ true → luma_size e ≤ i) → x ≡ true → rows_of (luma_plane e) i ≡ false
    not_luma i x after t = off (rows_of (luma_plane e) i) (λ u. omega (arith, luma_apart i u, after t))
      where
        off : (y : Bool) → (y ≡ true → ⊥) → y ≡ false
        off true h = absurd (h refl)
        off false h = refl

    behind : (q : Plane) → 1 ≤ q.row → luma_size e ≤ q.start → (i : ℕ) → rows_of q i ≡ true → rows_of (luma_plane e) i ≡ false
    behind q some start i t = not_luma i (rows_of q i) (λ u. omega (arith, lies_at q some i u)) t

  module _ (ok : fitting p ≡ true) (base : List ℕ) (b : CodesInPicture e r (2 ^ bl_depth p.header) base) where
    abbrev h : Header
    h = p.header

    fit : header_fits h ≡ true
    fit = (both (header_fits h) _ (y_usable p ok)).0

    luma_can : can_map h p.y ≡ true
    luma_can = usable_maps 0 h p.y (y_usable p ok) (luma_polynomials h p.y (y_usable p ok))

    -- what a way of composing a plane gives of its mapped samples
    abbrev Picture : (ℕ → Bool) → (Component → (ℕ → ℕ) → ℕ → ℕ) → List ℕ → Type 0
    Picture selected value after = after ≡ painted (λ i. selected (pair_at e i)) (three-mapped p base value) output

    -- components that go by tables alone
    module _ (tables : by_tables p ≡ true) where
      cb_can : can_map h p.cb ≡ true
      cb_can = (both (can_map h p.cb) _ tables).0

      cr_can : can_map h p.cr ≡ true
      cr_can = (both (can_map h p.cb) _ tables).1

      cb_is : (i : ℕ) → mapped (bl_depth h) h.d (mapping p.cb) (at base i) ≡ cb_mapped p base i
      cb_is i = sym (chroma_alone p base p.cb cb_can (at base i) _)

      cr_is : (i : ℕ) → mapped (bl_depth h) h.d (mapping p.cr) (at base i) ≡ cr_mapped p base i
      cr_is i = sym (chroma_alone p base p.cr cr_can (at base i) _)

    -- chroma by MMR, and luma by its table: they do not meet
    module _ (marks : List ℕ) (selected : ℕ → Bool) (by_marks : (k : ℕ) → not_full r.first r.last marks k ≡ selected k) where
      among : (k : ℕ) → selected k ≡ true → between r.first r.last k ≡ true
      among k s = not_full_named _ _ marks k (by_marks k ∙ s)

      mixed : (y v1 v2 : ℕ → ℕ) (raised1 raised2 enhancement : List ℕ) (plane : List ℕ → List ℕ) → ((o : List ℕ) → RowsIn (luma_plane e) r o → plane o ≡ painted (in_rows (luma_plane e) selected) y o) → InPicture e r.first r.last (length enhancement)
          → ((i : ℕ) → in_rows (cb_plane e) (between r.first r.last) i ≡ true → cut_of (cut_numbers h) (cb_mapped p base i + entry raised1 (at enhancement i)) ≡ v1 i)
          → ((i : ℕ) → in_rows (cr_plane e) (between r.first r.last) i ≡ true → cut_of (cut_numbers h) (cr_mapped p base i + entry raised2 (at enhancement i)) ≡ v2 i)
          → plane (chroma_after p r.first r.last raised1 raised2 (cut_numbers h) marks base enhancement output) ≡ painted (λ i. selected (pair_at e i)) (λ i. of_plane e i (y i) (v1 i) (v2 i)) output
      mixed y v1 v2 raised1 raised2 enhancement plane luma a is1 is2 =
          let four = luma_four e in
          let blue = painted (in_rows (cb_plane e) selected) v1 output in
          let chroma = painted (in_rows (cr_plane e) selected) v2 blue in
          let long : length chroma ≡ length output = length-painted _ _ blue ∙ length-painted _ _ output in
          ap plane (both-painted p ok r base (in_luma e r _ base b) (in_cb e r _ base b) (in_cr e r _ base b) raised1 raised2 enhancement g.within marks selected by_marks output v1 v2 g.forward b.rows.whole a.whole g.whole is1 is2)
          ∙ luma chroma (rw long (in_luma_plane e _ _ _ g))
          ∙ apart (in_rows (cr_plane e) selected) (in_rows (luma_plane e) selected) v2 y blue (behind selected among (cr_plane e) g.some_columns (omega arith))
          ∙ ap (painted (in_rows (cr_plane e) selected) v2) (apart (in_rows (cb_plane e) selected) (in_rows (luma_plane e) selected) v1 y output (behind selected among (cb_plane e) g.some_columns (omega arith)))
          ∙ over selected among y v1 v2

    cb_le : (i : ℕ) → cb_mapped p base i ≤ 65535
    unfolding chroma_at
    cb_le i = chroma_le (bl_depth h) h.d (mapping p.y) (mapping p.cb) (mapping p.cr) (mapping p.cb) (at base i) _ _ _

    cr_le : (i : ℕ) → cr_mapped p base i ≤ 65535
    unfolding chroma_at
    cr_le i = chroma_le (bl_depth h) h.d (mapping p.y) (mapping p.cb) (mapping p.cr) (mapping p.cr) (at base i) _ _ _

    -- ---- without residual: the row pairs that are not full
    none_found : (v s : ℕ) → v ≤ 65535 → cut_of (cut_numbers h) (v + entry (no_residual h) s) ≡ reconstructed (hdr_depth h) v (pos 0)
    unfolding no_residual
    none_found v s low = rw (fit, get_or-replicate 1024 (s % 1024) (raised (hdr_depth h) (pos 0)) 0 (omega arith)) (cut-found h fit v (pos 0) low (omega arith))

    module _ (marks : List ℕ) where
      abbrev some : ℕ → Bool
      some = not_full r.first r.last marks

      plain_luma : (o : List ℕ) → RowsIn (luma_plane e) r o → plain_plane h r marks base p.y (luma_plane e) o ≡ painted (in_rows (luma_plane e) some) (plain_at h (luma_mapped p base)) o
      plain_luma o k = plain_plane-painted h p.y (luma_plane e) r fit luma_can o base (luma_mapped p base) (λ i. refl) (in_luma e r _ base b) k marks

      plain_tables : by_tables p ≡ true → Picture some (λ c. plain_at h) (three p (plain_plane h r marks base) output)
      plain_tables t =
          three-painted some (not_full_named _ _ marks) (plain_plane h r marks base) (plain_at h (luma_mapped p base)) (plain_at h (cb_mapped p base)) (plain_at h (cr_mapped p base)) plain_luma
          (λ o k. plain_plane-painted h p.cb (cb_plane e) r fit (cb_can t) o base (cb_mapped p base) (cb_is t) (in_cb e r _ base b) k marks)
          (λ o k. plain_plane-painted h p.cr (cr_plane e) r fit (cr_can t) o base (cr_mapped p base) (cr_is t) (in_cr e r _ base b) k marks)

      plain_both : Picture some (λ c. plain_at h) (plain_mixed p r marks base output)
      unfolding plain_at
      plain_both =
          mixed marks some (λ k. refl) (plain_at h (luma_mapped p base)) (plain_at h (cb_mapped p base)) (plain_at h (cr_mapped p base)) (no_residual h) (no_residual h) base (plain_plane h r marks base p.y (luma_plane e)) plain_luma b.rows
          (λ i t. none_found (cb_mapped p base i) (at base i) (cb_le i))
          (λ i t. none_found (cr_mapped p base i) (at base i) (cr_le i))

      -- either way
      pub plain_painted : Picture some (λ c. plain_at h) (plain_picture p r marks base output)
      unfolding plain_picture
      plain_painted = go (by_tables p) refl
        where
          go : (t : Bool) → by_tables p ≡ t → Picture some (λ c. plain_at h) (cond t (three p (plain_plane h r marks base) output) (plain_mixed p r marks base output))
          go true q = plain_tables q
          go false q = plain_both

    -- ---- with residual: all row pairs
    some-found : (q : Nlq) (v s : ℕ) → (header_fits h && nlq_fits h q) ≡ true → v ≤ 65535 → s < 2 ^ el_depth h → cut_of (cut_numbers h) (v + entry (residual_table h q) s) ≡ reconstructed (hdr_depth h) v (residual (el_depth h) h.d (quantization q) s)
    some-found q v s u low k = ap (λ (w : ℕ). cut_of (cut_numbers h) (v + w)) (raised-found h q u s k) ∙ cut-found h fit v _ low (residual_small h q u s)

    module _ (enhancement : List ℕ) (a : CodesInPicture e r (2 ^ el_depth h) enhancement) where
      abbrev all : ℕ → Bool
      all = between r.first r.last

      enhanced_luma : (o : List ℕ) → RowsIn (luma_plane e) r o → enhanced_plane h r base enhancement p.y (luma_plane e) o ≡ painted (in_rows (luma_plane e) all) (enhanced-at h enhancement p.y.nlq (luma_mapped p base)) o
      enhanced_luma o k =
          enhanced_plane-painted h p.y (luma_plane e) r fit luma_can o base (luma_mapped p base) (λ i. refl) (in_luma e r _ base b) k (nlq_of 0 h p.y (y_usable p ok)) enhancement (in_luma e r _ enhancement a)

      enhanced_tables : by_tables p ≡ true → Picture all (λ c. enhanced-at h enhancement c.nlq) (three p (enhanced_plane h r base enhancement) output)
      enhanced_tables t =
          three-painted all (λ k s. s) (enhanced_plane h r base enhancement) _ _ _
          enhanced_luma
          (λ o k. enhanced_plane-painted h p.cb (cb_plane e) r fit (cb_can t) o base (cb_mapped p base) (cb_is t) (in_cb e r _ base b) k (nlq_of 1 h p.cb (cb_usable p ok)) enhancement (in_cb e r _ enhancement a))
          (λ o k. enhanced_plane-painted h p.cr (cr_plane e) r fit (cr_can t) o base (cr_mapped p base) (cr_is t) (in_cr e r _ base b) k (nlq_of 2 h p.cr (cr_usable p ok)) enhancement (in_cr e r _ enhancement a))

      enhanced-both : Picture all (λ c. enhanced-at h enhancement c.nlq) (enhanced_mixed p r base enhancement output)
      unfolding enhanced-at
      enhanced-both =
          mixed [] all (without_marks _ _) (enhanced-at h enhancement p.y.nlq (luma_mapped p base)) (enhanced-at h enhancement p.cb.nlq (cb_mapped p base)) (enhanced-at h enhancement p.cr.nlq (cr_mapped p base)) _ _ enhancement (enhanced_plane h r base enhancement p.y (luma_plane e)) enhanced_luma a.rows
          (λ i t. some-found p.cb.nlq (cb_mapped p base i) (at enhancement i) (nlq_of 1 h p.cb (cb_usable p ok)) (cb_le i) ((in_cb e r _ enhancement a).code i t))
          (λ i t. some-found p.cr.nlq (cr_mapped p base i) (at enhancement i) (nlq_of 2 h p.cr (cr_usable p ok)) (cr_le i) ((in_cr e r _ enhancement a).code i t))

      -- either way
      pub enhanced-painted : Picture all (λ c. enhanced-at h enhancement c.nlq) (enhanced_picture p r base enhancement output)
      unfolding enhanced_picture
      enhanced-painted = go (by_tables p) refl
        where
          go : (t : Bool) → by_tables p ≡ t → Picture all (λ c. enhanced-at h enhancement c.nlq) (cond t (three p (enhanced_plane h r base enhancement) output) (enhanced_mixed p r base enhancement output))
          go true q = enhanced_tables q
          go false q = enhanced-both

-- ---- what the planes hold is what composing means
-- of two things of a plane
pub of_plane-both : {A B : Type 0} (f : A → B → ℕ) (e : Extent) (i : ℕ) (y cb cr : A) (y' cb' cr' : B) → of_plane e i (f y y') (f cb cb') (f cr cr') ≡ f (of_plane e i y cb cr) (of_plane e i y' cb' cr')
unfolding of_plane
of_plane-both f e i y cb cr y' cb' cr' = go (ltb i (luma_size e)) (ltb i (luma_size e + chroma_size e))
  where
    go : (u v : Bool) → cond u (f y y') (cond v (f cb cb') (f cr cr')) ≡ f (cond u y (cond v cb cr)) (cond u y' (cond v cb' cr'))
    go true v = refl
    go false true = refl
    go false false = refl

pub plain_composed : (p : Plan) (base enhancement : List ℕ) (i : ℕ) → used p.header (length enhancement) ≡ false → three-mapped p base (λ c. plain_at p.header) i ≡ composed_at p base enhancement i
unfolding plain_at composed_by mapped_at residual_at
plain_composed p base enhancement i off =
    let e = extent p.header in
    sym (of_plane_ap (λ (v : ℕ). reconstructed (hdr_depth p.header) v (pos 0)) e i (luma_mapped p base i) (cb_mapped p base i) (cr_mapped p base i)) ∙ rw off

pub enhanced_composed : (p : Plan) (base enhancement : List ℕ) (i : ℕ) → used p.header (length enhancement) ≡ true → three-mapped p base (λ c. enhanced-at p.header enhancement c.nlq) i ≡ composed_at p base enhancement i
unfolding enhanced-at composed_by mapped_at residual_at
enhanced_composed p base enhancement i on =
    let h = p.header in
    of_plane-both (λ (v : ℕ) (c : Component). reconstructed (hdr_depth h) v (residual (el_depth h) h.d (quantization c.nlq) (at enhancement i))) (extent h) i (luma_mapped p base i) (cb_mapped p base i) (cr_mapped p base i) p.y p.cb p.cr
    ∙ rw on
