-- A chroma sample that MMR may have mapped is the composed one. Assumes nothing.
use mathlib.Core.Path.{◌≡◌, refl, sym, ap, ap₂, ◌∙◌}
use mathlib.Core.Bool.{Bool, true, false, ◌||◌, cond}
use mathlib.Core.List.{List}
use Prim.Native.Nat.{ℕ, ◌+◌, ◌-◌, ◌*◌, ◌/◌, ◌%◌, ◌^◌, ◌<◌, ◌≤◌}
use native.Mathlib.Nat.{div-add-mod', mod-lt, div-lt_iff_lt-mul, le-div_iff_mul-le, mul_comm, mul_assoc, mul_left_comm, mul-le-mul_left, mul-add}
use native.Mathlib.Omega.{arith}
use lib.Arith.{digits_div, digits_mod}
use lib.Dec.{eqb}
use lib.ListN.{length}
use borrow.Author.Tests.{lt-ltb, le-ltb, le-leb, eq-eqb}
use Rattle.runs.specs.Runs.{painted, between}
use Rattle.runs.specs.inner.Loops.{at}
use Rattle.runs.proofs.Between.{between_true, in_between}
use Rattle.runs.proofs.Painting.{painted_cong, painted-over}
use Rattle.marks.specs.inner.Marks.{not_full}
use Rattle.marks.proofs.Keeping.{not_full_named}
use Rattle.standard.specs.Parameters.{Mmr, Mapping}
use Rattle.standard.specs.Mapping.{pivot_value, pivot_idx}
use Rattle.standard.specs.Mmr.{down_sampled, mmr, to_pivots, mmr_mapped, chroma_mapped}
use Rattle.picture.specs.declared.Extent.{Extent}
use Rattle.picture.specs.declared.Plane.{Plane}
use Rattle.picture.specs.Picture.{width, luma_size, chroma_size, picture_size}
use Rattle.picture.specs.inner.Planes.{planes, luma_plane, cb_plane, cr_plane, row_start, in_rows}
use Rattle.picture.proofs.Rows.{rows_between, rows_same, rows_among}
use Rattle.picture.proofs.Three.{luma_four}
use Rattle.plan.specs.declared.Header.{Header}
use Rattle.plan.specs.declared.Component.{Component}
use Rattle.plan.specs.declared.Plan.{Plan}
use Rattle.plan.specs.Parameters.{mapping}
use Rattle.plan.specs.Ranges.{most_n, bl_depth, header_fits}
use Rattle.plan.specs.Rule7.{fitting}
use Rattle.plan.specs.inner.Facts.{HeaderFacts, ComponentFacts}
use Rattle.plan.proofs.Facts.{header_facts, component_facts, y_usable, cb_usable, cr_usable}
use Rattle.plan.proofs.Truths.{both}
use Rattle.mapping.proofs.Meaning.{mapped_le}
use Rattle.sums.specs.inner.Sums.{cut_of}
use Rattle.residual.specs.inner.Tables.{cut_numbers}
use Rattle.rules.specs.Rules.{extent}
use Rattle.spans.specs.inner.Spans.{entry}
use Rattle.rows.specs.declared.Rows.{Rows}
use Rattle.mmr.specs.inner.Luma.{row_from, luma_beside}
use Rattle.mmr.specs.inner.Columns.{column_terms}
use Rattle.mmr.specs.inner.Rows.{place_of}
use Rattle.mmr.specs.inner.Ready.{mapped_chroma}
use Rattle.mmr.specs.inner.Chroma.{format_of, composed_chroma, chroma_value, chroma_fits, chroma_painted, chroma_after}
use Rattle.mmr.proofs.Meaning.{cb_means, cr_means, luma_low}
use Rattle.compose.specs.Composing.{chroma_at}
use Rattle.compose.proofs.Samples.{CodesIn, cb_mapped, cr_mapped}

-- no mapped sample is above 65,535
mmr_le : (depth d : ℕ) (m : Mmr) (s0 s1 s2 : ℕ) → mmr depth d m s0 s1 s2 ≤ 65535
unfolding mmr
mmr_le depth d m s0 s1 s2 = omega arith

pub chroma_le : (depth d : ℕ) (y cb cr m : Mapping) (s s0 s1 s2 : ℕ) → chroma_mapped depth d y cb cr m s s0 s1 s2 ≤ 65535
unfolding chroma_mapped mmr_mapped
chroma_le depth d y cb cr m s s0 s1 s2 =
    let p = pivot_idx (pivot_value m.pred_pivot_value) m.num_pivots_minus2 s in
    either (eqb (m.mapping_idc p) 1) (mmr_le depth d (m.mmr p) (to_pivots y s0) (to_pivots cb s1) (to_pivots cr s2)) (mapped_le depth d m s)
  where
    either : (t : Bool) {a b : ℕ} → a ≤ 65535 → b ≤ 65535 → cond t a b ≤ 65535
    either true h k = h
    either false h k = k

-- ---- a column of a row pair
-- an index of a row pair that is named lies in its plane's rows
at_row : (q : Plane) (first last k x : ℕ) → first ≤ k → k < last → x < q.row → in_rows q (between first last) (row_start q k + x) ≡ true
at_row q first last k x a b h =
    rows_between q first last (row_start q k + x) (omega arith)
    ∙ in_between (row_start q first) (row_start q last) (row_start q k + x) (omega (arith, mul-le-mul_left q.row a)) (omega (arith, mul-le-mul_left q.row b, mul-add q.row k 1))

module _ (p : Plan) (ok : fitting p ≡ true) (r : Rows) (base : List ℕ) where
  abbrev h : Header
  h = p.header

  abbrev e : Extent
  e = extent h

  abbrev limit : ℕ
  limit = 2 ^ bl_depth h

  -- what rule 7 gives
  header : HeaderFacts h
  header = header_facts p ok

  y_facts : ComponentFacts 0 h p.y
  y_facts = component_facts 0 h p.y (both (header_fits h) _ (y_usable p ok)).1

  cb_facts : ComponentFacts 1 h p.cb
  cb_facts = component_facts 1 h p.cb (both (header_fits h) _ (cb_usable p ok)).1

  cr_facts : ComponentFacts 2 h p.cr
  cr_facts = component_facts 2 h p.cr (both (header_fits h) _ (cr_usable p ok)).1

  module _ (by : CodesIn (luma_plane e) r limit base) (b1 : CodesIn (cb_plane e) r limit base) (b2 : CodesIn (cr_plane e) r limit base) where
    module _ (k col : ℕ) (lo : r.first ≤ k) (hi : k < r.last) (few : col < e.columns) where
      abbrev s0 : ℕ
      s0 = luma_beside base (2 * e.columns) (row_start (luma_plane e) k) col

      abbrev s1 : ℕ
      s1 = at base (row_start (cb_plane e) k + col)

      abbrev s2 : ℕ
      s2 = at base (row_start (cr_plane e) k + col)

      abbrev ts : List ℕ
      ts = column_terms (format_of p 3) (place_of (planes e) k) base col

      luma_code : (x : ℕ) → x < 4 * e.columns → at base (row_start (luma_plane e) k + x) < limit
      luma_code x b = by.code _ (at_row (luma_plane e) r.first r.last k x lo hi b)

      low_0 : s0 < limit
      low_0 =
          luma_low base (2 * e.columns) (row_start (luma_plane e) k) col limit (omega arith) (λ x b. luma_code x (omega arith))
          (λ x b. let z : row_start (luma_plane e) k + 2 * e.columns + x ≡ row_start (luma_plane e) k + (2 * e.columns + x) = omega arith in rw z (luma_code (2 * e.columns + x) (omega arith)))

      low_1 : s1 < limit
      low_1 = b1.code _ (at_row (cb_plane e) r.first r.last k col lo hi few)

      low_2 : s2 < limit
      low_2 = b2.code _ (at_row (cr_plane e) r.first r.last k col lo hi few)

      abbrev by_standard : Component → ℕ → ℕ
      by_standard c s = chroma_mapped (bl_depth h) h.d (mapping p.y) (mapping p.cb) (mapping p.cr) (mapping c) s s0 s1 s2

      cb_means_there : mapped_chroma h.d p.cb s1 (at ts 2) ts ≡ by_standard p.cb s1
      unfolding column_terms
      cb_means_there = cb_means p header y_facts cb_facts cr_facts s0 s1 s2 low_0 low_1 low_2

      cr_means_there : mapped_chroma h.d p.cr s2 (at ts 3) ts ≡ by_standard p.cr s2
      unfolding column_terms
      cr_means_there = cr_means p header y_facts cb_facts cr_facts s0 s1 s2 low_0 low_1 low_2

      -- the same sample by its index in the plane
      in_plane : (c : Component) (s j : ℕ) → j ≡ k * e.columns + col → chroma_at p base c s j ≡ by_standard c s
      unfolding chroma_at luma_beside
      in_plane c s j q =
          let pair : j / e.columns ≡ k = ap (λ (n : ℕ). n / e.columns) q ∙ digits_div k few in
          let column : j % e.columns ≡ col = ap (λ (n : ℕ). n % e.columns) q ∙ digits_mod k few in
          let four = luma_four e in
          let turned = mul_comm k e.columns in
          let upper : width e * (2 * k) ≡ row_start (luma_plane e) k = doubled e.columns k in
          let lower : width e * (2 * k + 1) ≡ row_start (luma_plane e) k + 2 * e.columns = omega (arith, upper, mul-add (width e) (2 * k) 1) in
          let i1 : luma_size e + j ≡ row_start (cb_plane e) k + col = omega arith in
          let i2 : luma_size e + chroma_size e + j ≡ row_start (cr_plane e) k + col = omega arith in
          let f : ℕ → ℕ → ℕ → ℕ → ℕ → ℕ = λ a b n u v. chroma_mapped (bl_depth h) h.d (mapping p.y) (mapping p.cb) (mapping p.cr) (mapping c) s (down_sampled (width e) (row_from base a) (row_from base b) n) (at base u) (at base v) in
          ap₂ (λ (n m : ℕ). f (width e * (2 * n)) (width e * (2 * n + 1)) m (luma_size e + j) (luma_size e + chroma_size e + j)) pair column
          ∙ ap₂ (λ (a b : ℕ). f a b col (luma_size e + j) (luma_size e + chroma_size e + j)) upper lower
          ∙ ap₂ (λ (u v : ℕ). f (row_start (luma_plane e) k) (row_start (luma_plane e) k + 2 * e.columns) col u v) i1 i2
        where
          doubled : (c k : ℕ) → 2 * c * (2 * k) ≡ 0 + 4 * c * k
          doubled c k = omega (arith, mul_assoc 2 c (2 * k), mul_left_comm c 2 k, mul_assoc 4 c k)

    -- ---- at an index of the output
    module _ (raised1 raised2 enhancement : List ℕ) (within : r.last ≤ e.pairs) where
      abbrev value : ℕ → ℕ
      value i = chroma_value p raised1 raised2 (cut_numbers h) base enhancement i

      -- of a sample in a named row pair its row pair and its column
      record Lies (q : Plane) (i : ℕ) : Type 0 where
        after : q.start ≤ i
        before : i < row_start q r.last
        lo : r.first ≤ (i - q.start) / q.row
        hi : (i - q.start) / q.row < r.last
        few : (i - q.start) % q.row < q.row
        is : row_start q ((i - q.start) / q.row) + (i - q.start) % q.row ≡ i
        split : i - q.start ≡ (i - q.start) / q.row * q.row + (i - q.start) % q.row

      lies_at : (q : Plane) (i : ℕ) → 1 ≤ q.row → in_rows q (between r.first r.last) i ≡ true → Lies q i
      lies_at q i some t =
          let w = between_true _ _ i (sym (rows_between q r.first r.last i some) ∙ t) in
          let m = i - q.start in
          let whole = div-add-mod' m q.row in
          let turned = mul_comm (m / q.row) q.row in
          let first = mul_comm q.row r.first in
          let last = mul_comm q.row r.last in
          record {
            after = omega (arith, w.0);
            before = w.1;
            lo = (le-div_iff_mul-le some).1 (omega (arith, w.0));
            hi = (div-lt_iff_lt-mul some).1 (omega (arith, w.0, w.1));
            few = mod-lt m some;
            is = omega (arith, w.0);
            split = omega arith;
          }

      cb_value : (i : ℕ) → in_rows (cb_plane e) (between r.first r.last) i ≡ true → value i ≡ cut_of (cut_numbers h) (cb_mapped p base i + entry raised1 (at enhancement i))
      unfolding chroma_value composed_chroma
      cb_value i t =
          let four = luma_four e in
          let l = lies_at (cb_plane e) i b1.rows.some_columns t in
          let k = (i - (cb_plane e).start) / e.columns in
          let col = (i - (cb_plane e).start) % e.columns in
          let top = mul-le-mul_left e.columns within in
          let before : i < (cr_plane e).start = omega (arith, l.before) in
          let same : i - luma_size e ≡ i - (cb_plane e).start = omega arith in
          rw (lt-ltb i (cr_plane e).start before)
          (ap₂ (λ (v : ℕ) (n : ℕ). cut_of (cut_numbers h) (v + entry raised1 (at enhancement n))) (cb_means_there k col l.lo l.hi l.few) l.is
          ∙ ap (λ (v : ℕ). cut_of (cut_numbers h) (v + entry raised1 (at enhancement i)))
          (sym (in_plane k col l.lo l.hi l.few p.cb (at base i) (i - luma_size e) (same ∙ l.split) ∙ ap (by_standard k col l.lo l.hi l.few p.cb) (ap (at base) (sym l.is)))))

      cr_value : (i : ℕ) → in_rows (cr_plane e) (between r.first r.last) i ≡ true → value i ≡ cut_of (cut_numbers h) (cr_mapped p base i + entry raised2 (at enhancement i))
      unfolding chroma_value composed_chroma
      cr_value i t =
          let four = luma_four e in
          let l = lies_at (cr_plane e) i b2.rows.some_columns t in
          let k = (i - (cr_plane e).start) / e.columns in
          let col = (i - (cr_plane e).start) % e.columns in
          let same : i - (luma_size e + chroma_size e) ≡ i - (cr_plane e).start = omega arith in
          rw (le-ltb i (cr_plane e).start l.after)
          (ap₂ (λ (v : ℕ) (n : ℕ). cut_of (cut_numbers h) (v + entry raised2 (at enhancement n))) (cr_means_there k col l.lo l.hi l.few) l.is
          ∙ ap (λ (v : ℕ). cut_of (cut_numbers h) (v + entry raised2 (at enhancement i)))
          (sym (in_plane k col l.lo l.hi l.few p.cr (at base i) (i - (luma_size e + chroma_size e)) (same ∙ l.split) ∙ ap (by_standard k col l.lo l.hi l.few p.cr) (ap (at base) (sym l.is)))))

      -- ---- both planes
      fits : (output : List ℕ) → r.first ≤ r.last → length base ≡ picture_size e → length enhancement ≡ picture_size e → length output ≡ picture_size e → chroma_fits p r.first r.last (length base) (length enhancement) (length output) ≡ true
      fits output forward lb le lo =
          rw (
            (both (header_fits h) _ (y_usable p ok)).0,
            le-leb _ most_n y_facts.count,
            le-leb _ most_n cb_facts.count,
            le-leb _ most_n cr_facts.count,
            le-leb r.first r.last forward,
            le-leb r.last h.pairs within,
            eq-eqb _ _ lb,
            eq-eqb _ _ le,
            eq-eqb _ _ lo,
          )

      -- with marks, by which those are not full that are selected
      module _ (marks : List ℕ) (selected : ℕ → Bool) (by_marks : (k : ℕ) → not_full r.first r.last marks k ≡ selected k) where
        named : (q : Plane) (i : ℕ) → in_rows q selected i ≡ true → in_rows q (between r.first r.last) i ≡ true
        named q i t = rows_among q selected i _ (λ k s. not_full_named _ _ marks k (by_marks k ∙ s)) t

        pub both-painted : (output : List ℕ) (v1 v2 : ℕ → ℕ) → r.first ≤ r.last → length base ≡ picture_size e → length enhancement ≡ picture_size e → length output ≡ picture_size e
            → ((i : ℕ) → in_rows (cb_plane e) (between r.first r.last) i ≡ true → cut_of (cut_numbers h) (cb_mapped p base i + entry raised1 (at enhancement i)) ≡ v1 i)
            → ((i : ℕ) → in_rows (cr_plane e) (between r.first r.last) i ≡ true → cut_of (cut_numbers h) (cr_mapped p base i + entry raised2 (at enhancement i)) ≡ v2 i)
            → chroma_after p r.first r.last raised1 raised2 (cut_numbers h) marks base enhancement output
            ≡ painted (in_rows (cr_plane e) selected) v2 (painted (in_rows (cb_plane e) selected) v1 output)
        unfolding chroma_after chroma_painted
        both-painted output v1 v2 forward lb le lo is1 is2 =
            rw (fits output forward lb le lo)
            (painted_cong _ _ value value output (λ i b. ap₂ ◌||◌ (rows_same (cb_plane e) _ i selected by_marks) (rows_same (cr_plane e) _ i selected by_marks)) (λ i b t. refl)
            ∙ sym (painted-over _ _ value output)
            ∙ painted_cong _ _ value v2 _ (λ i b. refl) (λ i b t. let n = named (cr_plane e) i t in cr_value i n ∙ is2 i n)
            ∙ ap (painted _ v2) (painted_cong _ _ value v1 output (λ i b. refl) (λ i b t. let n = named (cb_plane e) i t in cb_value i n ∙ is1 i n)))
