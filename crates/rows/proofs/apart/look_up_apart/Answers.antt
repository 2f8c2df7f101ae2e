use mathlib.Core.Path.{◌∙◌}
use Rattle.spans.proofs.InStep.{all_in_step}
use Rattle.rows.proofs.apart.look_up_apart.Goals as goal

-- `rows::apart::look_up_apart` meets its contract. Assumes nothing.
pub returns : goal.returns
returns c =
    c.look_up_in_step.ensures ∙ all_in_step _ _ _ _ _ _ _ _ c.requires.0 c.requires.1
