-- `fitting` meets its contract: what is judged is what was read. Assumes nothing.
use mathlib.Core.Path.{sym, ◌∙◌}
use Rattle.refusals.specs.Refusals.{number_of}
use Rattle.fields.proofs.Following.{handed_on}
use Rattle.fields.proofs.Stepping.{fails, judged}
use Rattle.fields.proofs.fitting.Goals as goal

pub returns-in_err-v-clause-value : goal.returns-in_err-v-clause-value
returns-in_err-v-clause-value g c test is = handed_on _ _ _ c.from_residual.ensures ∙ fails _ test (λ v. number_of c.args.refusal) _ c.in_err-v.ensures.value

pub returns-then-not-fits-clause-value : goal.returns-then-not-fits-clause-value
returns-then-not-fits-clause-value g c test is = rw (sym (is _ _ c.fits.ensures) ∙ c.if-not-fits.true) at (judged _ test (λ v. number_of c.args.refusal) _ c.in_ok-v.ensures.value)

pub returns-clause-value : goal.returns-clause-value
returns-clause-value g c test is = rw (sym (is _ _ c.fits.ensures) ∙ c.if-not-fits.false) at (judged _ test (λ v. number_of c.args.refusal) _ c.in_ok-v.ensures.value)
