use mathlib.Core.Path.{ap, ◌∙◌}
use Rattle.runs.specs.Runs.{painted}
use Rattle.spans.proofs.InStep.{line-painted}
use Rattle.spans.proofs.apart.look_up_line.Goals as goal

-- `spans::apart::look_up_line` meets its contract. Assumes nothing.
pub returns : goal.returns
returns c =
    c.look_up_eight-4.ensures
    ∙ ap (painted _ _) (c.look_up_eight-3.ensures ∙ ap (painted _ _) (c.look_up_eight-2.ensures ∙ ap (painted _ _) c.look_up_eight.ensures))
    ∙ line-painted c.args.i _ _
