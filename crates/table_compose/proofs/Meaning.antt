-- The planes by their parts of a lent table are the picture that composing by the table means. Assumes nothing.
use mathlib.Core.Path.{◌≡◌, refl, sym, ap, ap₂, ◌∙◌}
use mathlib.Core.Bool.{Bool, true, false, ◌&&◌}
use mathlib.Core.List.{List, [], ◌∷◌}
use mathlib.Core.Logic.{⊎_elim}
use Prim.Native.Nat.{ℕ, zero, suc, ◌+◌, ◌*◌, ◌/◌, ◌%◌, ◌^◌, ◌<◌, ◌≤◌}
use native.Mathlib.Nat.{mod-eq_of_lt, lt_of_lt_of_le}
use native.Mathlib.Omega.{arith}
use lib.IntN.{pos}
use lib.ListN.{length, set, replicate, get_or-eq_default}
use lib.Pow.{pow_mono}
use Rattle.runs.specs.Runs.{painted, between}
use Rattle.runs.specs.inner.Loops.{at}
use Rattle.runs.specs.inner.Tables.{table}
use Rattle.std.proofs.lemmas.Bool.{cases_lt}
use Rattle.runs.proofs.Between.{between_true}
use Rattle.runs.proofs.Painting.{painted_cong, length-painted}
use Rattle.runs.proofs.Parts.{part, length_part, at_part}
use Rattle.runs.proofs.Tables.{length-table, at_table}
use Rattle.marks.specs.inner.Marks.{not_full}
use Rattle.marks.proofs.Keeping.{not_full_named}
use Rattle.standard.specs.Residual.{residual, reconstructed}
use Rattle.picture.specs.declared.Extent.{Extent}
use Rattle.picture.specs.declared.Plane.{Plane}
use Rattle.picture.specs.declared.Planes.{Planes}
use Rattle.picture.specs.Picture.{of_plane, pair_at, in_pairs}
use Rattle.picture.specs.inner.Planes.{planes, luma_plane, cb_plane, cr_plane, in_rows}
use Rattle.picture.proofs.Three.{in_luma_plane, in_cb_plane, in_cr_plane, painted-planes, of_plane_ap}
use Rattle.plan.specs.declared.Header.{Header}
use Rattle.plan.specs.declared.Nlq.{Nlq}
use Rattle.plan.specs.declared.Component.{Component}
use Rattle.plan.specs.declared.Plan.{Plan}
use Rattle.plan.specs.Parameters.{quantization}
use Rattle.plan.specs.Ranges.{bl_depth, el_depth, hdr_depth, header_fits}
use Rattle.plan.specs.Rule7.{nlq_fits}
use Rattle.plan.proofs.Facts.{header-kept}
use Rattle.residual.specs.inner.Tables.{residual_table, finished_table, cut_numbers}
use Rattle.sums.specs.declared.Cut.{Cut}
use Rattle.rules.specs.Rules.{by_table, extent, used}
use Rattle.rows.specs.declared.Rows.{Rows}
use Rattle.rows.specs.inner.Rows.{RowsIn, looked_up_rows, added_up_rows}
use Rattle.compose.specs.Composing.{looked_up_at, residual_at, composed_by}
use Rattle.compose.proofs.Samples.{CodesIn, CodesInPicture, plain_at, enhanced-at}
use Rattle.compose.proofs.Meaning.{of_plane-both}
use Rattle.compose.proofs.Planes.{Has, in_luma, in_cb, in_cr}
use Rattle.compose.proofs.Planes as one-plane
use Rattle.table_compose.specs.inner.ByTable.{Lent, Enhanced, in_not_full, plain_sample, enhanced_sample}

-- ---- a part that is copied: its samples have 16 bits, and past its end there is 0
pub low_set : (l : List ℕ) (i v : ℕ) → ((j : ℕ) → at l j ≤ 65535) → v ≤ 65535 → (j : ℕ) → at (set l i v) j ≤ 65535
low_set [] i v h b j = h j
low_set (x ∷ xs) zero v h b zero = b
low_set (x ∷ xs) zero v h b (suc j) = h (suc j)
low_set (x ∷ xs) (suc i) v h b zero = h zero
low_set (x ∷ xs) (suc i) v h b (suc j) = low_set xs i v (λ k. h (suc k)) b j

pub low_zeros : (n i : ℕ) → at (replicate n 0) i ≤ 65535
low_zeros zero i = omega arith
low_zeros (suc n) zero = omega arith
low_zeros (suc n) (suc i) = low_zeros n i

pub past_end : (l : List ℕ) (j : ℕ) → length l ≤ j → 0 ≡ at l j
past_end l j b = sym (get_or-eq_default l 0 b)

pub low_copy : (l : List ℕ) → ((i : ℕ) → at l i < 65536) → (i : ℕ) → at (table 1024 (at l)) i ≤ 65535
low_copy l low i =
    ⊎_elim (λ k. rw (at_table 1024 (at l) i k) (omega (arith, low i))) (λ k. let past : length (table 1024 (at l)) ≤ i = omega (arith, length-table 1024 (at l)) in rw (get_or-eq_default (table 1024 (at l)) 0 past) (omega arith)) (cases_lt i 1024)

-- ---- the planes
module _ (h : Header) (r : Rows) (t base output : List ℕ) (g : Lent h r t base output) where
  abbrev e : Extent
  e = extent h

  abbrev codes : ℕ
  codes = 2 ^ bl_depth h

  -- a third of the table's length
  pub third : length t / 3 ≡ codes
  third = omega (arith, g.size)

  few : codes ≤ 1024
  few = pow_mono {i = bl_depth h} {j = 10} (omega (arith, (header-kept h g.fits).base_depth))

  pub short : length t ≤ 3072
  short = omega (arith, g.size, few)

  in_base : CodesInPicture e r codes base
  in_base = record { rows = g.in_base; code = g.code }

  abbrev rows_of : Plane → ℕ → Bool
  rows_of q = in_rows q (between r.first r.last)

  -- the mapped sample of a part that begins there
  abbrev from_on : ℕ → ℕ → ℕ
  from_on from i = at t (from + at base i)

  has_part : (q : Plane) (from : ℕ) → from + codes ≤ length t → CodesIn q r codes base → Has q r (part from (from + codes) t) base (from_on from)
  has_part q from within b =
      record {
        long = λ i s. rw (length_part from (from + codes) t within, small i s) (omega (arith, b.code i s));
        is = λ i s. ap (at (part from (from + codes) t)) (small i s) ∙ at_part from (from + codes) t (at base i) (omega (arith, b.code i s));
      }
    where
      small : (i : ℕ) → rows_of q i ≡ true → at base i % 1024 ≡ at base i
      small i s = mod-eq_of_lt (lt_of_lt_of_le (b.code i s) few)

  -- three paintings at some of the row pairs that are named
  over : (selected : ℕ → Bool) → ((k : ℕ) → selected k ≡ true → between r.first r.last k ≡ true) → (y cb cr : ℕ → ℕ) → painted (in_rows (cr_plane e) selected) cr (painted (in_rows (cb_plane e) selected) cb (painted (in_rows (luma_plane e) selected) y output)) ≡ painted (λ i. selected (pair_at e i)) (λ i. of_plane e i (y i) (cb i) (cr i)) output
  over selected named y cb cr = painted-planes e g.in_output.some_columns selected (λ k s. omega (arith, between_true r.first r.last k (named k s), g.in_output.within)) y cb cr output

  -- ---- without residual: three planes, one after the other, at the row pairs that are not full
  all_plain : (i : ℕ) → of_plane e i (plain_at h (from_on 0) i) (plain_at h (from_on codes) i) (plain_at h (from_on (2 * codes)) i) ≡ plain_sample h t base i
  unfolding plain_at plain_sample looked_up_at
  all_plain i = sym (of_plane_ap (λ (from : ℕ). reconstructed (hdr_depth h) (at t (from + at base i)) (pos 0)) e i 0 codes (2 * codes))

  module _ (marks : List ℕ) where
    abbrev some : ℕ → Bool
    some = not_full r.first r.last marks

    abbrev looked : ℕ → Plane → List ℕ → List ℕ
    looked from q o = looked_up_rows (finished_table h (part from (from + codes) t)) q r marks base o

    one_looked : (q : Plane) (from : ℕ) → from + codes ≤ length t → CodesIn q r codes base → (o : List ℕ) → RowsIn q r o → looked from q o ≡ painted (in_rows q some) (plain_at h (from_on from)) o
    one_looked q from within b o k = one-plane.plain_painted h q r (part from (from + codes) t) base o (from_on from) g.fits (has_part q from within b) b.rows k marks

    -- where calls wrote the planes, with a third of the table's length that was worked out
    pub plain_written : (p : Planes) (n : ℕ) (o1 o2 o3 : List ℕ) → p ≡ planes e → n ≡ codes
        → o1 ≡ looked_up_rows (finished_table h (part 0 n t)) p.y r marks base output
        → o2 ≡ looked_up_rows (finished_table h (part n (2 * n) t)) p.cb r marks base o1
        → o3 ≡ looked_up_rows (finished_table h (part (2 * n) (3 * n) t)) p.cr r marks base o2
        → o3 ≡ painted (in_not_full h r marks) (plain_sample h t base) output
    plain_written p n o1 o2 o3 is third e1 e2 e3 =
        let y = in_luma e r codes base in_base in
        let cb = in_cb e r codes base in_base in
        let cr = in_cr e r codes base in_base in
        let w : (from to : ℕ) (q : Plane) (o : List ℕ) → from + codes ≡ to → looked_up_rows (finished_table h (part from to t)) q r marks base o ≡ looked from q o = λ from to q o s. ap (λ (m : ℕ). looked_up_rows (finished_table h (part from m t)) q r marks base o) (sym s) in
        let one : o1 ≡ painted (in_rows (luma_plane e) some) (plain_at h (from_on 0)) output =
        e1 ∙ ap₂ (λ (m : ℕ) (s : Planes). looked_up_rows (finished_table h (part 0 m t)) s.y r marks base output) third is
        ∙ w 0 codes (luma_plane e) output (omega arith)
        ∙ one_looked (luma_plane e) 0 (omega (arith, g.size)) y output (in_luma_plane e _ _ _ g.in_output) in
        let m1 : length o1 ≡ length output = ap length one ∙ length-painted _ _ output in
        let two : o2 ≡ painted (in_rows (cb_plane e) some) (plain_at h (from_on codes)) o1 =
        e2 ∙ ap₂ (λ (m : ℕ) (s : Planes). looked_up_rows (finished_table h (part m (2 * m) t)) s.cb r marks base o1) third is
        ∙ w codes (2 * codes) (cb_plane e) o1 (omega arith)
        ∙ one_looked (cb_plane e) codes (omega (arith, g.size)) cb o1 (rw m1 (in_cb_plane e _ _ _ g.in_output)) in
        let m2 : length o2 ≡ length output = ap length two ∙ length-painted _ _ o1 ∙ m1 in
        let three : o3 ≡ painted (in_rows (cr_plane e) some) (plain_at h (from_on (2 * codes))) o2 =
        e3 ∙ ap₂ (λ (m : ℕ) (s : Planes). looked_up_rows (finished_table h (part (2 * m) (3 * m) t)) s.cr r marks base o2) third is
        ∙ w (2 * codes) (3 * codes) (cr_plane e) o2 (omega arith)
        ∙ one_looked (cr_plane e) (2 * codes) (omega (arith, g.size)) cr o2 (rw m2 (in_cr_plane e _ _ _ g.in_output)) in
        three ∙ ap (painted _ _) (two ∙ ap (painted _ _) one) ∙ over some (not_full_named _ _ marks) _ _ _
        ∙ painted_cong _ _ _ _ output (λ i b. refl) (λ i b s. all_plain i)

  -- ---- with residual: each part is copied to a table first
  module _ (enhancement : List ℕ) where
    -- a copy of a part, and that its samples have 16 bits
    pub record Copied (from to : ℕ) (copy : List ℕ) : Type 0 where
      pub is : copy ≡ table 1024 (at (part from to t))
      pub low : (i : ℕ) → at copy i ≤ 65535

    one_added : (q : Plane) (from to : ℕ) (n : Nlq) (copy : List ℕ) → from + codes ≡ to → to ≤ length t → Copied from to copy → (header_fits h && nlq_fits h n) ≡ true → CodesIn q r codes base → CodesIn q r (2 ^ el_depth h) enhancement → (o : List ℕ) → RowsIn q r o
        → added_up_rows copy (residual_table h n) (cut_numbers h) q r base enhancement o ≡ painted (rows_of q) (enhanced-at h enhancement n (from_on from)) o
    one_added q from to n copy ends within c u b a o k = one-plane.enhanced-painted h q r copy base o (from_on from) g.fits has b.rows k n u low enhancement a
      where
        part-has : Has q r (part from (from + codes) t) base (from_on from)
        part-has = has_part q from (omega arith) b

        at_copy : (i : ℕ) → rows_of q i ≡ true → at copy (at base i % 1024) ≡ from_on from i
        at_copy i s =
            ap (λ (l : List ℕ). at l (at base i % 1024)) c.is
            ∙ at_table 1024 (at (part from to t)) (at base i % 1024) (omega arith)
            ∙ ap (λ (m : ℕ). at (part from m t) (at base i % 1024)) (sym ends)
            ∙ part-has.is i s

        has : Has q r copy base (from_on from)
        has = record { long = λ i s. rw (c.is, length-table 1024 (at (part from to t))) (omega arith); is = at_copy }

        low : (i : ℕ) → rows_of q i ≡ true → from_on from i ≤ 65535
        low i s = rw (sym (at_copy i s)) (c.low (at base i % 1024))

    all-enhanced : (y cb cr : Nlq) (i : ℕ) → of_plane e i (enhanced-at h enhancement y (from_on 0) i) (enhanced-at h enhancement cb (from_on codes) i) (enhanced-at h enhancement cr (from_on (2 * codes)) i) ≡ enhanced_sample h y cb cr t base enhancement i
    unfolding enhanced-at enhanced_sample looked_up_at
    all-enhanced y cb cr i =
        of_plane-both (λ (from : ℕ) (q : Nlq). reconstructed (hdr_depth h) (at t (from + at base i)) (residual (el_depth h) h.d (quantization q) (at enhancement i))) e i 0 codes (2 * codes) y cb cr

    pub enhanced-written : (p : Planes) (k : Cut) (n : ℕ) (y cb cr : Nlq) (t1 t2 t3 o1 o2 o3 : List ℕ) → Enhanced h r y cb cr enhancement → p ≡ planes e → k ≡ cut_numbers h → n ≡ codes
        → Copied 0 n t1 → Copied n (2 * n) t2 → Copied (2 * n) (3 * n) t3
        → o1 ≡ added_up_rows t1 (residual_table h y) k p.y r base enhancement output
        → o2 ≡ added_up_rows t2 (residual_table h cb) k p.cb r base enhancement o1
        → o3 ≡ added_up_rows t3 (residual_table h cr) k p.cr r base enhancement o2
        → o3 ≡ painted (in_pairs e r.first r.last) (enhanced_sample h y cb cr t base enhancement) output
    enhanced-written p k n y cb cr t1 t2 t3 o1 o2 o3 a is cut third c1 c2 c3 e1 e2 e3 =
        let in_enhancement : CodesInPicture e r (2 ^ el_depth h) enhancement = record { rows = a.in_enhancement; code = a.code } in
        let one : o1 ≡ painted (rows_of (luma_plane e)) (enhanced-at h enhancement y (from_on 0)) output =
        e1 ∙ ap₂ (λ (x : Cut) (s : Planes). added_up_rows t1 (residual_table h y) x s.y r base enhancement output) cut is
        ∙ one_added (luma_plane e) 0 n y t1 (omega arith) (omega (arith, g.size)) c1 a.y_fits (in_luma e r codes base in_base) (in_luma e r _ enhancement in_enhancement) output (in_luma_plane e _ _ _ g.in_output) in
        let m1 : length o1 ≡ length output = ap length one ∙ length-painted _ _ output in
        let two : o2 ≡ painted (rows_of (cb_plane e)) (enhanced-at h enhancement cb (from_on codes)) o1 =
        e2 ∙ ap₂ (λ (x : Cut) (s : Planes). added_up_rows t2 (residual_table h cb) x s.cb r base enhancement o1) cut is
        ∙ one_added (cb_plane e) codes (2 * codes) cb t2 (omega arith) (omega (arith, g.size)) (rw third at c2) a.cb_fits (in_cb e r codes base in_base) (in_cb e r _ enhancement in_enhancement) o1 (rw m1 (in_cb_plane e _ _ _ g.in_output)) in
        let m2 : length o2 ≡ length output = ap length two ∙ length-painted _ _ o1 ∙ m1 in
        let three : o3 ≡ painted (rows_of (cr_plane e)) (enhanced-at h enhancement cr (from_on (2 * codes))) o2 =
        e3 ∙ ap₂ (λ (x : Cut) (s : Planes). added_up_rows t3 (residual_table h cr) x s.cr r base enhancement o2) cut is
        ∙ one_added (cr_plane e) (2 * codes) (3 * codes) cr t3 (omega arith) (omega (arith, g.size)) (rw third at c3) a.cr_fits (in_cr e r codes base in_base) (in_cr e r _ enhancement in_enhancement) o2 (rw m2 (in_cr_plane e _ _ _ g.in_output)) in
        three ∙ ap (painted _ _) (two ∙ ap (painted _ _) one) ∙ over (between r.first r.last) (λ k s. s) _ _ _
        ∙ painted_cong _ _ _ _ output (λ i b. refl) (λ i b s. all-enhanced y cb cr i)

-- ---- what the planes hold is what composing by a table means
pub plain_composed : (p : Plan) (t base enhancement : List ℕ) (i : ℕ) → used p.header (length enhancement) ≡ false → plain_sample p.header t base i ≡ composed_by (by_table t) p base enhancement i
unfolding plain_sample composed_by residual_at
plain_composed p t base enhancement i off = rw off

pub enhanced_composed : (p : Plan) (t base enhancement : List ℕ) (i : ℕ) → used p.header (length enhancement) ≡ true → enhanced_sample p.header p.y.nlq p.cb.nlq p.cr.nlq t base enhancement i ≡ composed_by (by_table t) p base enhancement i
unfolding enhanced_sample composed_by residual_at
enhanced_composed p t base enhancement i on =
    ap (λ (q : Nlq). reconstructed (hdr_depth p.header) (looked_up_at p.header t base i) (residual (el_depth p.header) p.header.d (quantization q) (at enhancement i)))
    (sym (of_plane_ap (λ (c : Component). c.nlq) (extent p.header) i p.y p.cb p.cr))
    ∙ rw on
