use mathlib.Core.Path.{ap, ◌∙◌}
use Prim.Native.Nat.{◌+◌}
use Rattle.runs.specs.Runs.{painted}
use Rattle.spans.proofs.InStep.{four-painted}
use Rattle.spans.proofs.apart.line_of_each.Goals as goal

-- `spans::apart::line_of_each` meets its contract. Assumes nothing.
pub returns : goal.returns
returns c =
    let s = c.args.s in
    let i = c.args.i in
    c.look_up_line-4.ensures
    ∙ ap (painted _ _) (c.look_up_line-3.ensures ∙ ap (painted _ _) (c.look_up_line-2.ensures ∙ ap (painted _ _) c.look_up_line.ensures))
    ∙ four-painted (s.a + i) (s.b + i) (s.c + i) (s.d + i) 32 _ _
