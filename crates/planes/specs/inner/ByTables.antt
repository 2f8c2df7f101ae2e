-- The planes of a picture: row pairs that are looked up, or added up, by the tables of their components, and chroma by MMR.
use Rattle.std.specs.Prelude.{Bool, ◌&&◌, cond, List, [], ℕ}
use Rattle.picture.specs.declared.Plane.{Plane}
use Rattle.picture.specs.inner.Planes.{luma_plane, cb_plane, cr_plane}
use Rattle.plan.specs.declared.Header.{Header}
use Rattle.plan.specs.declared.Component.{Component}
use Rattle.plan.specs.declared.Plan.{Plan}
use Rattle.rules.specs.Rules.{extent}
use Rattle.sums.specs.declared.Cut.{Cut}
use Rattle.mapping.specs.inner.Mapped.{can_map, mapped_table}
use Rattle.residual.specs.inner.Tables.{residual_table, residual_pair, no_residual, finished_table, cut_numbers}
use Rattle.mmr.specs.inner.Chroma.{chroma_after}
use Rattle.rows.specs.declared.Rows.{Rows}
use Rattle.rows.specs.inner.Rows.{looked_up_rows, added_up_rows}

-- one plane, without residual, where row pairs that are full by the marks are kept, and with it
abbrev pub plain_plane : Header → Rows → List ℕ → List ℕ → Component → Plane → List ℕ → List ℕ
plain_plane h r marks base c p output = looked_up_rows (finished_table h (mapped_table h c)) p r marks base output

abbrev pub enhanced_plane : Header → Rows → List ℕ → List ℕ → Component → Plane → List ℕ → List ℕ
enhanced_plane h r base enhancement c p output = added_up_rows (mapped_table h c) (residual_table h c.nlq) (cut_numbers h) p r base enhancement output

-- luma, Cb and Cr, one after the other
abbrev pub three : Plan → (Component → Plane → List ℕ → List ℕ) → List ℕ → List ℕ
three p plane output =
    let e = extent p.header in
    plane p.cr (cr_plane e) (plane p.cb (cb_plane e) (plane p.y (luma_plane e) output))

-- both chroma components go by tables
abbrev pub by_tables : Plan → Bool
by_tables p = can_map p.header p.cb && can_map p.header p.cr

-- chroma by MMR: without residual the enhancement is not looked at, and each code of it has none
abbrev pub plain_chroma : Plan → Rows → List ℕ → List ℕ → List ℕ → List ℕ
plain_chroma p r marks base output =
    let none = no_residual p.header in
    chroma_after p r.first r.last none none (cut_numbers p.header) marks base base output

abbrev pub enhanced_chroma : Plan → Cut → Rows → List ℕ → List ℕ → List ℕ → List ℕ
enhanced_chroma p cut r base enhancement output =
    let raised = residual_pair p.header p.cb.nlq p.cr.nlq in
    chroma_after p r.first r.last raised.first raised.second cut [] base enhancement output

-- and luma by its table
abbrev pub plain_mixed : Plan → Rows → List ℕ → List ℕ → List ℕ → List ℕ
plain_mixed p r marks base output = let h = p.header in plain_plane h r marks base p.y (luma_plane (extent h)) (plain_chroma p r marks base output)

abbrev pub enhanced_mixed : Plan → Rows → List ℕ → List ℕ → List ℕ → List ℕ
enhanced_mixed p r base enhancement output =
    let h = p.header in
    enhanced_plane h r base enhancement p.y (luma_plane (extent h)) (enhanced_chroma p (cut_numbers h) r base enhancement output)

-- the three planes of a picture
unfoldable pub plain_picture : Plan → Rows → List ℕ → List ℕ → List ℕ → List ℕ
plain_picture p r marks base output =
    cond (by_tables p) (three p (plain_plane p.header r marks base) output) (plain_mixed p r marks base output)

unfoldable pub enhanced_picture : Plan → Rows → List ℕ → List ℕ → List ℕ → List ℕ
enhanced_picture p r base enhancement output =
    cond (by_tables p) (three p (enhanced_plane p.header r base enhancement) output) (enhanced_mixed p r base enhancement output)
