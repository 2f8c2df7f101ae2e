-- `integer` meets its contract: what is judged by its range is what was read. Assumes nothing.
use mathlib.Core.Path.{sym, ◌∙◌}
use Rattle.fields.proofs.Following.{handed_on}
use Rattle.fields.proofs.Stepping.{fails, judged}
use Rattle.section_fields.specs.Fields.{integer_fits}
use Rattle.section_fields.proofs.integer.Goals.{Start}
use Rattle.section_fields.proofs.integer.Goals as goal

pub returns-in_err-v-clause-value : goal.returns-in_err-v-clause-value
returns-in_err-v-clause-value c =
    handed_on _ _ _ c.from_residual.ensures ∙ fails _ (integer_fits c.args.idc) (λ v. 5) _ c.in_err-v.ensures.value ∙ rw (c.asked-a.ensures, c.integer_kind.ensures, c.integer_width.ensures)

pub returns-then-not-integer_fits-clause-value : goal.returns-then-not-integer_fits-clause-value
returns-then-not-integer_fits-clause-value c =
    rw (sym c.integer_fits.ensures ∙ c.if-not-integer_fits.true) at (judged _ (integer_fits c.args.idc) (λ v. 5) _ c.in_ok-v.ensures.value) ∙ rw (c.asked-a.ensures, c.integer_kind.ensures, c.integer_width.ensures)

pub returns-clause-value : goal.returns-clause-value
returns-clause-value c =
    rw (sym c.integer_fits.ensures ∙ c.if-not-integer_fits.false) at (judged _ (integer_fits c.args.idc) (λ v. 5) _ c.in_ok-v.ensures.value) ∙ rw (c.asked-a.ensures, c.integer_kind.ensures, c.integer_width.ensures)
