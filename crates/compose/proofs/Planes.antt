-- One plane by a table of mapped samples, wherever it comes from: without residual and with it. Assumes nothing.
use mathlib.Core.Path.{◌≡◌, refl, ap, ap₂, ◌∙◌}
use mathlib.Core.Bool.{Bool, true, ◌&&◌}
use mathlib.Core.List.{List}
use Prim.Native.Nat.{ℕ, ◌+◌, ◌%◌, ◌^◌, ◌<◌, ◌≤◌}
use native.Mathlib.Omega.{arith}
use lib.IntN.{pos}
use lib.ListN.{length}
use Rattle.runs.specs.Runs.{painted, between}
use Rattle.runs.specs.inner.Loops.{at}
use Rattle.runs.proofs.Between.{between_true}
use Rattle.runs.proofs.Painting.{painted_cong}
use Rattle.marks.specs.inner.Marks.{not_full}
use Rattle.marks.proofs.Keeping.{not_full_named}
use Rattle.standard.specs.Residual.{reconstructed}
use Rattle.picture.specs.declared.Extent.{Extent}
use Rattle.picture.specs.declared.Plane.{Plane}
use Rattle.picture.specs.inner.Planes.{luma_plane, cb_plane, cr_plane, in_rows}
use Rattle.picture.proofs.Rows.{rows_inside, rows_among}
use Rattle.picture.proofs.Three.{in_luma_plane, in_cb_plane, in_cr_plane, luma_selected, cb_selected, cr_selected}
use Rattle.plan.specs.declared.Header.{Header}
use Rattle.plan.specs.declared.Nlq.{Nlq}
use Rattle.plan.specs.Ranges.{el_depth, hdr_depth, header_fits}
use Rattle.plan.specs.Rule7.{nlq_fits}
use Rattle.residual.specs.inner.Tables.{residual_table, finished_table, cut_numbers}
use Rattle.residual.proofs.Meaning.{raised-found, residual_small, finished_found, cut-found}
use Rattle.spans.specs.inner.Spans.{looked_up}
use Rattle.sums.specs.inner.Sums.{cut_of, added_up}
use Rattle.rows.specs.declared.Rows.{Rows}
use Rattle.rows.specs.inner.Rows.{RowsIn, looked_up_rows, added_up_rows}
use Rattle.rows.proofs.Lending.{all-looked_up, all-added_up}
use Rattle.compose.proofs.Samples.{CodesIn, CodesInPicture, plain_at, enhanced-at}

-- a table that has the mapped sample of each sample of some row pairs
pub record Has (p : Plane) (r : Rows) (table base : List ℕ) (m : ℕ → ℕ) : Type 0 where
  pub long : (i : ℕ) → in_rows p (between r.first r.last) i ≡ true → at base i % 1024 < length table
  pub is : (i : ℕ) → in_rows p (between r.first r.last) i ≡ true → at table (at base i % 1024) ≡ m i

module _ (h : Header) (p : Plane) (r : Rows) (table base output : List ℕ) (m : ℕ → ℕ) (fit : header_fits h ≡ true) (has : Has p r table base m) (b : RowsIn p r base) (o : RowsIn p r output) where
  abbrev rows : ℕ → Bool
  rows = in_rows p (between r.first r.last)

  pub plain_painted : (marks : List ℕ) → looked_up_rows (finished_table h table) p r marks base output ≡ painted (in_rows p (not_full r.first r.last marks)) (plain_at h m) output
  unfolding looked_up plain_at
  plain_painted marks =
      all-looked_up p r base output b o _ marks
      ∙ painted_cong _ _ _ _ output (λ i l. refl)
      (λ i l s.
      let t = rows_among p _ i (between r.first r.last) (not_full_named _ _ marks) s in
      finished_found h fit table (at base i) (has.long i t) ∙ ap (λ (v : ℕ). reconstructed (hdr_depth h) v (pos 0)) (has.is i t))

  pub enhanced-painted : (q : Nlq) → (header_fits h && nlq_fits h q) ≡ true → ((i : ℕ) → rows i ≡ true → m i ≤ 65535) → (enhancement : List ℕ) → CodesIn p r (2 ^ el_depth h) enhancement → added_up_rows table (residual_table h q) (cut_numbers h) p r base enhancement output ≡ painted rows (enhanced-at h enhancement q m) output
  unfolding added_up enhanced-at
  enhanced-painted q u low enhancement g =
      all-added_up p r base output b o _ _ _ enhancement g.rows
      ∙ painted_cong rows rows _ _ output (λ i l. refl)
      (λ i l s.
      ap₂ (λ (v w : ℕ). cut_of (cut_numbers h) (v + w)) (has.is i s) (raised-found h q u (at enhancement i) (g.code i s))
      ∙ cut-found h fit _ _ (low i s) (residual_small h q u (at enhancement i)))

-- ---- the planes of a picture
module _ (e : Extent) (r : Rows) (limit : ℕ) (run : List ℕ) (g : CodesInPicture e r limit run) where
  few : (k : ℕ) → between r.first r.last k ≡ true → k < e.pairs
  few k h = omega (arith, between_true r.first r.last k h, g.rows.within)

  pub in_luma : CodesIn (luma_plane e) r limit run
  in_luma = let p = in_luma_plane e _ _ _ g.rows in record { rows = p; code = λ i s. g.code i (rows_inside _ _ _ _ i p s) (luma_selected e g.rows.some_columns _ few i s) }

  pub in_cb : CodesIn (cb_plane e) r limit run
  in_cb = let p = in_cb_plane e _ _ _ g.rows in record { rows = p; code = λ i s. g.code i (rows_inside _ _ _ _ i p s) (cb_selected e g.rows.some_columns _ few i s) }

  pub in_cr : CodesIn (cr_plane e) r limit run
  in_cr = let p = in_cr_plane e _ _ _ g.rows in record { rows = p; code = λ i s. g.code i (rows_inside _ _ _ _ i p s) (cr_selected e g.rows.some_columns _ few i s) }
