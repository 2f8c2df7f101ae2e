-- `body` meets its contract: the header's tests, and then the sections. Assumes nothing.
use mathlib.Core.Path.{ap, sym, ◌∙◌}
use Rattle.block.specs.Reading.{sections}
use Rattle.block.proofs.Cascade.{unfit_header, bad_zeros, good_header}
use Rattle.block.proofs.body.Goals as goal

pub returns-then-not-zeros_fit : goal.returns-then-not-zeros_fit
returns-then-not-zeros_fit c =
    c.wrong_header.ensures
    ∙ rw c.read_header-header.ensures (bad_zeros _ _ _ (rw (c.in-Some.ensures, c.read_header-header.ensures) at c.in-Some.h.fits) (sym c.zeros_fit.ensures ∙ c.if-not-zeros_fit.true))

pub returns-in-Ok : goal.returns-in-Ok
returns-in-Ok c =
    c.in-Ok.ensures ∙ ap (sections _ _ _) (c.in-Some.ensures ∙ c.read_header-header.ensures)
    ∙ good_header _ _ _ (rw (c.in-Some.ensures, c.read_header-header.ensures) at c.in-Some.h.fits) (sym c.zeros_fit.ensures ∙ c.if-not-zeros_fit.false)

pub returns-in-Err : goal.returns-in-Err
returns-in-Err c =
    c.refused.ensures ∙ c.in-Err.ensures ∙ ap (sections _ _ _) (c.in-Some.ensures ∙ c.read_header-header.ensures)
    ∙ good_header _ _ _ (rw (c.in-Some.ensures, c.read_header-header.ensures) at c.in-Some.h.fits) (sym c.zeros_fit.ensures ∙ c.if-not-zeros_fit.false)

pub returns-in-None : goal.returns-in-None
returns-in-None c = c.wrong_header-in-None.ensures ∙ rw c.read_header-header.ensures (unfit_header _ _ _ (rw c.read_header-header.ensures at c.in-None.ensures))
