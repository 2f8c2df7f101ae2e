-- `sections` meets its contract: a failure is the answer, or else what follows. Assumes nothing.
use mathlib.Core.Path.{◌∙◌}
use Rattle.block.specs.Reading.{sections}
use Rattle.block.proofs.Cascade.{handed_on}
use Rattle.block.proofs.sections.Goals as goal

pub returns-in_err-y : goal.returns-in_err-y
unfolding sections
returns-in_err-y c = handed_on _ _ c.from_residual.ensures ∙ c.in_err-y.ensures _

pub returns-in_err-cb : goal.returns-in_err-cb
unfolding sections
returns-in_err-cb c = handed_on _ _ c.from_residual-in_err-cb.ensures ∙ c.in_err-cb.ensures _ ∙ c.in_ok-y.ensures _

pub returns-in_err-cr : goal.returns-in_err-cr
unfolding sections
returns-in_err-cr c = handed_on _ _ c.from_residual-in_err-cr.ensures ∙ c.in_err-cr.ensures _ ∙ c.in_ok-cb.ensures _ ∙ c.in_ok-y.ensures _

pub returns : goal.returns
unfolding sections
returns c = c.in_ok-cr.ensures _ ∙ c.in_ok-cb.ensures _ ∙ c.in_ok-y.ensures _
