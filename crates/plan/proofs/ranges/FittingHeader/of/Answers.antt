-- `FittingHeader::of` meets its contract: the test gives what the struct keeps. Assumes nothing.
use mathlib.Core.Path.{sym, ◌∙◌}
use Rattle.plan.proofs.Facts.{header-kept}
use Rattle.plan.proofs.ranges.FittingHeader.of.Goals as goal

pub invariant_of-result : goal.invariant_of-result
invariant_of-result c =
    let fits = sym c.header_fits.ensures ∙ c.if-header_fits.true in
    record { fits = fits; facts = header-kept _ fits }
