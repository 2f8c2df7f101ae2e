-- `mmr::slice::slice_at` meets its contract. Assumes nothing.
use mathlib.Core.Bool.{true, false}
use Rattle.mmr.proofs.ByKind.{piece_in}
use Rattle.mmr.proofs.Slicing.{slice_found}
use Rattle.mmr.proofs.slice.slice_at.Goals as goal

-- the piece has a place in the arrays
pub mapped-requires-clause-p_in_bounds : goal.mapped-requires-clause-p_in_bounds
mapped-requires-clause-p_in_bounds c = let b = c.args.both.now in piece_in b.cr b.given.cr c.args.s c.piece_of.ensures.piece

pub mapped-requires-else-cr-clause-p_in_bounds : goal.mapped-requires-else-cr-clause-p_in_bounds
mapped-requires-else-cr-clause-p_in_bounds c = let b = c.args.both.now in piece_in b.cb b.given.cb c.args.s c.piece_of-else-cr.ensures.piece

pub returns-then-cr : goal.returns-then-cr
returns-then-cr c =
    let ts = c.slice_terms-ts in
    rw c.if-cr.true (slice_found c.args.both.now c.args.s true ts.result.tt ts.ensures.order (rw c.if-cr.true at ts.ensures.terms) c.piece_of.ensures.piece c.mapped.ensures)

pub returns-else-cr : goal.returns-else-cr
returns-else-cr c =
    let ts = c.slice_terms-ts in
    rw c.if-cr.false (slice_found c.args.both.now c.args.s false ts.result.tt ts.ensures.order (rw c.if-cr.false at ts.ensures.terms) c.piece_of-else-cr.ensures.piece c.mapped-else-cr.ensures)
