-- What the private functions ask and give: row pairs whose mapped samples stand in a lent table.
use Rattle.std.specs.Prelude.{◌≡◌, Bool, true, ◌&&◌, List, ℕ, ◌^◌, ◌<◌, pos, length}
use Rattle.runs.specs.inner.Loops.{at}
use Rattle.marks.specs.inner.Marks.{not_full}
use Rattle.standard.specs.Residual.{residual, reconstructed}
use Rattle.picture.specs.Picture.{of_plane, pair_at, in_pairs}
use Rattle.picture.specs.inner.Planes.{InPicture}
use Rattle.plan.specs.declared.Header.{Header}
use Rattle.plan.specs.declared.Nlq.{Nlq}
use Rattle.plan.specs.Parameters.{quantization}
use Rattle.plan.specs.Ranges.{bl_depth, el_depth, hdr_depth, header_fits}
use Rattle.plan.specs.Rule7.{nlq_fits}
use Rattle.plan.specs.Tables.{table_size}
use Rattle.rows.specs.declared.Rows.{Rows}
use Rattle.rules.specs.Rules.{extent}
use Rattle.compose.specs.Composing.{looked_up_at}

-- a table of its length, and pictures with codes in the row pairs
pub record Lent (h : Header) (r : Rows) (table base output : List ℕ) : Type 0 where
  pub fits : header_fits h ≡ true
  pub size : length table ≡ table_size h
  pub in_base : InPicture (extent h) r.first r.last (length base)
  pub code : (i : ℕ) → i < length base → in_pairs (extent h) r.first r.last i ≡ true → at base i < 2 ^ bl_depth h
  pub in_output : InPicture (extent h) r.first r.last (length output)

-- and an enhancement, with quantizations that can be computed with
pub record Enhanced (h : Header) (r : Rows) (y cb cr : Nlq) (enhancement : List ℕ) : Type 0 where
  pub y_fits : (header_fits h && nlq_fits h y) ≡ true
  pub cb_fits : (header_fits h && nlq_fits h cb) ≡ true
  pub cr_fits : (header_fits h && nlq_fits h cr) ≡ true
  pub in_enhancement : InPicture (extent h) r.first r.last (length enhancement)
  pub code : (i : ℕ) → i < length enhancement → in_pairs (extent h) r.first r.last i ≡ true → at enhancement i < 2 ^ el_depth h

-- the sample at index i lies in one of the row pairs, and that one is not full by the marks
abbrev pub in_not_full : Header → Rows → List ℕ → ℕ → Bool
in_not_full h r marks i = not_full r.first r.last marks (pair_at (extent h) i)

-- the sample at index i, without residual and with it
unfoldable pub plain_sample : Header → List ℕ → List ℕ → ℕ → ℕ
plain_sample h table base i = reconstructed (hdr_depth h) (looked_up_at h table base i) (pos 0)

unfoldable pub enhanced_sample : Header → Nlq → Nlq → Nlq → List ℕ → List ℕ → List ℕ → ℕ → ℕ
enhanced_sample h y cb cr table base enhancement i =
    reconstructed (hdr_depth h) (looked_up_at h table base i)
    (residual (el_depth h) h.d (quantization (of_plane (extent h) i y cb cr)) (at enhancement i))
