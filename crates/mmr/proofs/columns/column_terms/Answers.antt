-- `mmr::columns::column_terms` meets its contract. Assumes nothing.
use Prim.Native.Nat.{◌+◌, ◌*◌}
use Rattle.mmr.specs.inner.Columns.{column_terms}
use Rattle.mmr.proofs.Listing.{terms_cong}
use Rattle.mmr.proofs.columns.column_terms.Goals as goal

pub returns-clause-terms : goal.returns-clause-terms
unfolding column_terms
returns-clause-terms c =
    let f = c.args.both.now.format in
    terms_cong f.depth (7 * f.order + 1) c.luma_code-s0.ensures.0 c.code_of-s1.ensures.0 c.code_of-s2.ensures.0 c.terms_of.ensures.terms
