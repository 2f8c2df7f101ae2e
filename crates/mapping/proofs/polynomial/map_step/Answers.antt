-- What the sum's words hold is what is cut. Assumes nothing.
use mathlib.Core.Path.{ap, ◌∙◌}
use borrow.Author.Rules.{sfits_of}
use mir.Syntax.{w64}
use mir.Facts.{to_z-of_z}
use Rattle.standard.specs.Mapping.{poly_sum}
use Rattle.steps.specs.inner.Steps.{cut_by}
use Rattle.steps.proofs.Small.{is_cut}
use Rattle.mapping.specs.inner.Copies.{coef}
use Rattle.mapping.proofs.polynomial.map_step.Goals as goal

pub returns : goal.returns
returns c =
    let a = c.args in
    c.cut_at.ensures
    ∙ ap (cut_by a.scale.d) (to_z-of_z (sfits_of {w = w64} {z = c.sum_of.result} c.sum_of.type_inv) ∙ c.sum_of.ensures)
    ∙ is_cut a.scale.d a.scale.denominator (poly_sum a.scale.depth a.s (coef a.row) 2)
