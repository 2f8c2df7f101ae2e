-- `mmr::slice::slice_terms` meets its contract. Assumes nothing.
use mathlib.Core.Path.{◌≡◌, ap, ◌∙◌}
use mathlib.Core.Bool.{cond}
use Prim.Native.Nat.{◌+◌, ◌*◌, ◌/◌}
use Rattle.mmr.specs.inner.Columns.{code_of}
use Rattle.mmr.specs.inner.Slice.{slice_terms}
use Rattle.mmr.proofs.Listing.{terms_cong}
use Rattle.mmr.proofs.slice.slice_terms.Goals as goal
use Rattle.mmr.proofs.slice.slice_terms.Goals.{then-cr, else-cr, then-cr-2, else-cr-2}

pub returns-clause-terms : goal.returns-clause-terms
unfolding slice_terms
returns-clause-terms c =
    let f = c.args.both.now.format in
    let blue : c.if-cr.code_of ≡ cond c.args.cr (f.codes / 2) c.args.s = elim c.if-cr.branch [ then-cr w ↦ rw w.if-cr.true w.code_of-is | else-cr w ↦ rw w.if-cr.false w.code_of-is ] in
    let red : c.if-cr-2.code_of ≡ cond c.args.cr c.args.s (f.codes / 2) = elim c.if-cr-2.branch [ then-cr-2 w ↦ rw w.if-cr-2.true w.code_of-is | else-cr-2 w ↦ rw w.if-cr-2.false w.code_of-is ] in
    terms_cong f.depth (7 * f.order + 1) c.code_of-s0.ensures.0 (c.code_of-s1.ensures.0 ∙ ap (code_of f.codes f.cb) blue) (c.code_of-s2.ensures.0 ∙ ap (code_of f.codes f.cr) red) c.terms_of.ensures.terms
