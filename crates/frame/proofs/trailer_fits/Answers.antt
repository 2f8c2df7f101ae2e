-- `trailer_fits` meets its contract: the version's test is what `is_known` ensures.
use mathlib.Core.Bool.{and-true}
use Rattle.frame.specs.Frame.{trailer_fits}
use Rattle.frame.proofs.trailer_fits.Goals as goal

pub returns : goal.returns
unfolding trailer_fits
returns c = rw (c.from.ensures, c.from-2.ensures, c.is_known.ensures, and-true)
