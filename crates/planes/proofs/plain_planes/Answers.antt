-- `planes::plain_planes` meets its contract: by tables, or chroma by MMR. Assumes nothing.
use mathlib.Core.Bool.{false}
use mathlib.Core.Path.{◌≡◌, sym, ap, ◌∙◌}
use borrow.Author.Rules.{rules}
use Rattle.std.specs.Prelude.{None}
use Rattle.picture.specs.inner.Planes.{planes}
use Rattle.mapping.proofs.Meaning.{is_mapped, or_zeros}
use Rattle.planes.specs.inner.ByTables.{plain_plane, plain_picture, by_tables}
use Rattle.planes.proofs.Three.{in_order, looked_by, plain_over, both-map, no_blue, no_red}
use Rattle.planes.proofs.plain_planes.Goals as goal

pub returns-in-Some-Some : goal.returns-in-Some-Some
unfolding plain_picture
returns-in-Some-Some c =
    -- what the calls gave
    let a = c.args in
    let h = a.plan.header in
    let placed = c.planes-p.ensures ∙ ap planes c.extent_of.ensures in
    let luma = (rw c.mapped_table.ensures at c.unwrap_or-luma.ensures) ∙ or_zeros h a.plan.y in
    let blue = is_mapped h a.plan.cb (sym c.mapped_table-blue.ensures ∙ c.in-Some-Some.is-0) in
    let red = is_mapped h a.plan.cr (sym c.mapped_table-red.ensures ∙ c.in-Some-Some.is-1) in
    rw (both-map a.plan blue.0 red.0)
    (in_order a.plan (plain_plane h a.r a.marks.now a.base.now) c.planes-p.result a.output.now _ _ _ placed
    (looked_by h a.plan.y _ _ _ _ _ _ _ c.plain_plane.ensures luma)
    (looked_by h a.plan.cb _ _ _ _ _ _ _ c.plain_plane-in-Some-Some.ensures blue.1)
    (looked_by h a.plan.cr _ _ _ _ _ _ _ c.plain_plane-in-Some-Some-2.ensures red.1))

pub returns : goal.returns
unfolding plain_picture
returns c =
    -- what the calls gave
    let a = c.args in
    let h = a.plan.header in
    let placed = c.planes-p.ensures ∙ ap planes c.extent_of.ensures in
    let luma = (rw c.mapped_table.ensures at c.unwrap_or-luma.ensures) ∙ or_zeros h a.plan.y in
    let tested : by_tables a.plan ≡ false = elim c.match-blue.branch [
      | goal.in-Some+in-None-1 w ↦ (let none : c.mapped_table-red.result ≡ None = search rules in no_red a.plan (sym c.mapped_table-red.ensures ∙ none))
      | goal.in-None-1 w ↦ (let none : c.mapped_table-blue.result ≡ None = search rules in no_blue a.plan (sym c.mapped_table-blue.ensures ∙ none))
    ] in
    rw tested
    (plain_over a.plan a.r c.planes-p.result a.marks.now a.base.now a.output.now _ _ placed c.plain_chroma.ensures
    (looked_by h a.plan.y _ _ _ _ _ _ _ c.plain_plane-2.ensures luma))
