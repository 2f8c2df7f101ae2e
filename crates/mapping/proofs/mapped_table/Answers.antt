-- `mapping::mapped_table` meets its contract: where what is copied of the pieces passes, the pieces can be mapped. Assumes nothing.
use mathlib.Core.Path.{◌≡◌, sym, ◌∙◌}
use mathlib.Core.Bool.{true}
use borrow.Author.Rules.{rules}
use Prim.Native.Nat.{◌≤◌}
use native.Mathlib.Omega.{arith}
use Rattle.plan.specs.Ranges.{most_n}
use Rattle.plan.proofs.Sizes.{arrays}
use Rattle.mapping.specs.inner.Mapped.{frame_maps, pieces_map}
use Rattle.mapping.proofs.Mappable.{frame_facts}
use Rattle.mapping.proofs.Meaning.{pieces_as, can_by_rows, table_is, no_frame, no_pieces}
use Rattle.mapping.proofs.mapped_table.Goals.{After-pieces_map, Else-not-frame_maps, Else-not-pieces_map}
use Rattle.mapping.proofs.mapped_table.Goals as goal

frame : (e : Else-not-frame_maps) → let a = e.args in frame_maps a.h a.c.n a.c.preds ≡ true
frame e = sym e.frame_maps.ensures ∙ e.if-not-frame_maps.false

few : (e : Else-not-frame_maps) → e.args.c.n ≤ most_n
few e = (frame_facts e.args.h e.args.c (frame e)).count

pub returns-then-not-frame_maps : goal.returns-then-not-frame_maps
returns-then-not-frame_maps c = no_frame c.args.h c.args.c (sym c.frame_maps.ensures ∙ c.if-not-frame_maps.true)

-- the test of what is copied is that of the pieces
tested : (t : After-pieces_map) → t.pieces_map.result ≡ pieces_map t.args.c
tested t =
    let e : Else-not-frame_maps = search rules in
    t.pieces_map.ensures ∙ pieces_as t.args.c (few e) t.polynomials_of-polynomials.ensures (omega arith)

pub returns-then-not-pieces_map : goal.returns-then-not-pieces_map
returns-then-not-pieces_map c =
    let t : After-pieces_map = search rules in
    no_pieces c.args.h c.args.c (sym (tested t) ∙ c.if-not-pieces_map.true)

fit : (e : Else-not-pieces_map) → pieces_map e.args.c ≡ true
fit e = let t : After-pieces_map = search rules in
    sym (tested t) ∙ e.if-not-pieces_map.false

pub table_by-table-requires : goal.table_by-table-requires
table_by-table-requires c =
    let e : Else-not-frame_maps = search rules in
    let f : Else-not-pieces_map = search rules in
    rw (c.from.ensures, c.from-n.ensures)
    (can_by_rows c.args.h c.args.c _ (frame e) (fit f) c.polynomials_of-polynomials.ensures (arrays c.args.c _ c.well_formed.1.0))

pub returns : goal.returns
returns c =
    let e : Else-not-frame_maps = search rules in
    let f : Else-not-pieces_map = search rules in
    table_is c.args.h c.args.c _ (frame e) (fit f) c.polynomials_of-polynomials.ensures
    (rw (c.from.ensures, c.from-n.ensures) at c.table_by-table.ensures)
