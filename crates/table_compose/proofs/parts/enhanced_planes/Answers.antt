-- `table_compose::parts::enhanced_planes` meets its contract. Assumes nothing.
use mathlib.Core.Path.{ap, ◌∙◌}
use native.Mathlib.Omega.{arith}
use Rattle.picture.specs.inner.Planes.{planes}
use Rattle.table_compose.proofs.Meaning.{third, short, enhanced-written}
use Rattle.table_compose.proofs.parts.enhanced_planes.Goals as goal

pub returns : goal.returns
returns c =
    let a = c.args in
    enhanced-written a.h a.r a.table.now a.base.now a.output.now c.requires.lent a.enhancement.now c.planes-p.result c.cut_numbers-cut.result _ a.y a.cb a.cr _ _ _ _ _ _
    c.requires.enhanced (c.planes-p.ensures ∙ ap planes c.extent_of.ensures) c.cut_numbers-cut.ensures (third a.h a.r a.table.now a.base.now a.output.now c.requires.lent)
    (record { is = c.table_of-luma.ensures.is; low = c.table_of-luma.ensures.low })
    (record { is = c.table_of-blue.ensures.is; low = c.table_of-blue.ensures.low })
    (record { is = c.table_of-red.ensures.is; low = c.table_of-red.ensures.low })
    c.enhanced_plane.ensures c.enhanced_plane-2.ensures c.enhanced_plane-3.ensures

pub overflow_mul-codes : goal.overflow_mul-codes
overflow_mul-codes c =
    let a = c.args in
    -- a table is so short that no product wraps
    omega (arith, short a.h a.r a.table.now a.base.now a.output.now c.requires.lent)

pub offset_bounds-table-codes : goal.offset_bounds-table-codes
offset_bounds-table-codes c =
    let a = c.args in
    -- a table is so short that no product wraps
    omega (arith, short a.h a.r a.table.now a.base.now a.output.now c.requires.lent)

pub overflow_mul-codes-2 : goal.overflow_mul-codes-2
overflow_mul-codes-2 c =
    let a = c.args in
    -- a table is so short that no product wraps
    omega (arith, short a.h a.r a.table.now a.base.now a.output.now c.requires.lent)

pub overflow_mul-codes-3 : goal.overflow_mul-codes-3
overflow_mul-codes-3 c =
    let a = c.args in
    -- a table is so short that no product wraps
    omega (arith, short a.h a.r a.table.now a.base.now a.output.now c.requires.lent)

pub offset_bounds-table-codes-2 : goal.offset_bounds-table-codes-2
offset_bounds-table-codes-2 c =
    let a = c.args in
    -- a table is so short that no product wraps
    omega (arith, short a.h a.r a.table.now a.base.now a.output.now c.requires.lent)
