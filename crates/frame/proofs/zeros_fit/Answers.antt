-- `zeros_fit` meets its contract: each of the calls says what it answers.
use mathlib.Core.Bool.{and-true}
use Rattle.frame.specs.Frame.{zeros_fit}
use Rattle.frame.proofs.zeros_fit.Goals as goal

pub returns : goal.returns
unfolding zeros_fit
returns c = rw (c.one-first.ensures, c.two-second.ensures, c.four-third.ensures, and-true)
