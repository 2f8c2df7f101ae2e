-- `mmr::slice::slice_table` meets its contract: where the test fails the table has zeros. Assumes nothing.
use mathlib.Core.Path.{sym, ◌∙◌}
use Rattle.plan.proofs.Sizes.{sized}
use Rattle.mmr.proofs.Slicing.{slice_is, no_slice}
use Rattle.mmr.proofs.slice.slice_table.Goals as goal

pub returns-then-not-numbers_fit : goal.returns-then-not-numbers_fit
returns-then-not-numbers_fit c = no_slice c.args.plan c.args.cr (sym c.numbers_fit.ensures ∙ c.if-not-numbers_fit.true)

pub both_of-both-requires-clause-sized : goal.both_of-both-requires-clause-sized
both_of-both-requires-clause-sized c = sized c.args.plan _ c.well_formed.0

pub returns : goal.returns
returns c =
    let b = c.both_of-both in
    c.all_codes.ensures ∙ slice_is c.args.plan (sym c.numbers_fit.ensures ∙ c.if-not-numbers_fit.false) b.result b.ensures.format b.ensures.cb b.ensures.cr c.args.cr
