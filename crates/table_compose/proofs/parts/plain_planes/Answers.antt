-- `table_compose::parts::plain_planes` meets its contract. Assumes nothing.
use mathlib.Core.Path.{ap, ◌∙◌}
use native.Mathlib.Omega.{arith}
use Rattle.picture.specs.inner.Planes.{planes}
use Rattle.table_compose.proofs.Meaning.{third, short, plain_written}
use Rattle.table_compose.proofs.parts.plain_planes.Goals as goal

pub returns : goal.returns
returns c =
    let a = c.args in
    plain_written a.h a.r a.table.now a.base.now a.output.now c.requires a.marks.now c.planes-p.result _ _ _ _
    (c.planes-p.ensures ∙ ap planes c.extent_of.ensures) (third a.h a.r a.table.now a.base.now a.output.now c.requires)
    c.plain_plane.ensures c.plain_plane-2.ensures c.plain_plane-3.ensures

pub overflow_mul-codes : goal.overflow_mul-codes
overflow_mul-codes c =
    let a = c.args in
    -- a table is so short that no product wraps
    omega (arith, short a.h a.r a.table.now a.base.now a.output.now c.requires)

pub offset_bounds-table-codes : goal.offset_bounds-table-codes
offset_bounds-table-codes c =
    let a = c.args in
    -- a table is so short that no product wraps
    omega (arith, short a.h a.r a.table.now a.base.now a.output.now c.requires)

pub overflow_mul-codes-2 : goal.overflow_mul-codes-2
overflow_mul-codes-2 c =
    let a = c.args in
    -- a table is so short that no product wraps
    omega (arith, short a.h a.r a.table.now a.base.now a.output.now c.requires)

pub overflow_mul-codes-3 : goal.overflow_mul-codes-3
overflow_mul-codes-3 c =
    let a = c.args in
    -- a table is so short that no product wraps
    omega (arith, short a.h a.r a.table.now a.base.now a.output.now c.requires)

pub offset_bounds-table-codes-2 : goal.offset_bounds-table-codes-2
offset_bounds-table-codes-2 c =
    let a = c.args in
    -- a table is so short that no product wraps
    omega (arith, short a.h a.r a.table.now a.base.now a.output.now c.requires)
