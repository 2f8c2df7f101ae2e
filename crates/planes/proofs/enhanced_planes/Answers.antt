-- `planes::enhanced_planes` meets its contract: by tables, or chroma by MMR. Assumes nothing.
use mathlib.Core.Bool.{false}
use mathlib.Core.Path.{◌≡◌, sym, ap, ◌∙◌}
use borrow.Author.Rules.{rules}
use Rattle.std.specs.Prelude.{None}
use Rattle.picture.specs.inner.Planes.{planes}
use Rattle.mapping.proofs.Meaning.{is_mapped, or_zeros}
use Rattle.planes.specs.inner.ByTables.{enhanced_plane, enhanced_picture, by_tables}
use Rattle.planes.proofs.Three.{in_order, added_by, enhanced-over, both-map, no_blue, no_red}
use Rattle.planes.proofs.enhanced_planes.Goals as goal

pub returns-in-Some-Some : goal.returns-in-Some-Some
unfolding enhanced_picture
returns-in-Some-Some c =
    -- what the calls gave
    let a = c.args in
    let h = a.plan.header in
    let placed = c.planes-p.ensures ∙ ap planes c.extent_of.ensures in
    let luma = (rw c.mapped_table.ensures at c.unwrap_or-luma.ensures) ∙ or_zeros h a.plan.y in
    let blue = is_mapped h a.plan.cb (sym c.mapped_table-blue.ensures ∙ c.in-Some-Some.is-0) in
    let red = is_mapped h a.plan.cr (sym c.mapped_table-red.ensures ∙ c.in-Some-Some.is-1) in
    let k = c.cut_numbers-cut.ensures in
    rw (both-map a.plan blue.0 red.0)
    (in_order a.plan (enhanced_plane h a.r a.base.now a.enhancement.now) c.planes-p.result a.output.now _ _ _ placed
    (added_by h a.plan.y _ _ _ _ _ _ _ _ c.enhanced_plane.ensures luma k)
    (added_by h a.plan.cb _ _ _ _ _ _ _ _ c.enhanced_plane-in-Some-Some.ensures blue.1 k)
    (added_by h a.plan.cr _ _ _ _ _ _ _ _ c.enhanced_plane-in-Some-Some-2.ensures red.1 k))

pub returns : goal.returns
unfolding enhanced_picture
returns c =
    -- what the calls gave
    let a = c.args in
    let h = a.plan.header in
    let placed = c.planes-p.ensures ∙ ap planes c.extent_of.ensures in
    let luma = (rw c.mapped_table.ensures at c.unwrap_or-luma.ensures) ∙ or_zeros h a.plan.y in
    let tested : by_tables a.plan ≡ false = elim c.match-blue.branch [
      | goal.in-Some+in-None-1 w ↦ (let none : c.mapped_table-red.result ≡ None = search rules in no_red a.plan (sym c.mapped_table-red.ensures ∙ none))
      | goal.in-None-1 w ↦ (let none : c.mapped_table-blue.result ≡ None = search rules in no_blue a.plan (sym c.mapped_table-blue.ensures ∙ none))
    ] in
    let k = c.cut_numbers-cut.ensures in
    rw tested
    (enhanced-over a.plan a.r c.planes-p.result a.base.now a.enhancement.now a.output.now _ _ _ placed k c.enhanced_chroma.ensures
    (added_by h a.plan.y _ _ _ _ _ _ _ _ c.enhanced_plane-2.ensures luma k))
