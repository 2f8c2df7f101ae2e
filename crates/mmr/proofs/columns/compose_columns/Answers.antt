-- `mmr::columns::compose_columns` meets its contract: what is finished belongs at its column. Assumes nothing.
use mathlib.Core.Path.{refl, ◌∙◌}
use native.Mathlib.Omega.{arith}
use Rattle.mmr.proofs.ByKind.{piece_in}
use Rattle.mmr.proofs.Two.{no_columns, column_more, at_cb, at_cr}
use Rattle.mmr.proofs.columns.compose_columns.Goals as goal

pub loop-i-init : goal.loop-i-init
loop-i-init c = no_columns c.args.p _ c.args.output.now

-- the pieces have places in the arrays
pub mapped-cb-requires-clause-p_in_bounds : goal.mapped-cb-requires-clause-p_in_bounds
mapped-cb-requires-clause-p_in_bounds c = let b = c.args.both.now in piece_in b.cb b.given.cb _ c.piece_of-p1.ensures.piece

pub mapped-cr-requires-clause-p_in_bounds : goal.mapped-cr-requires-clause-p_in_bounds
mapped-cr-requires-clause-p_in_bounds c = let b = c.args.both.now in piece_in b.cr b.given.cr _ c.piece_of-p2.ensures.piece

-- what was finished is what belongs there
pub loop-i-preserved : goal.loop-i-preserved
loop-i-preserved c =
    let b = c.args.both.now in
    let v = c.args.inputs.now in
    let p = c.args.p in
    let l = c.loop-i in
    let ts = c.column_terms-ts in
    let apart = c.requires.base.apart in
    let h = c.loop-i-test.true in
    column_more p _ c.args.output.now l.i _ _ c.finished-u.result c.finished-v.result refl refl
    (omega (arith, c.requires.output.apart, c.requires.output.inside)) (omega (arith, c.requires.output.inside)) l.invariant
    (c.finished-u.ensures ∙ at_cb b v p apart l.i h _ ts.ensures.order ts.ensures.terms refl c.piece_of-p1.ensures.piece c.mapped-cb.ensures)
    (c.finished-v.ensures ∙ at_cr b v p apart l.i h _ ts.ensures.order ts.ensures.terms refl c.piece_of-p2.ensures.piece c.mapped-cr.ensures)
