use mathlib.Core.Path.{ap, ◌∙◌}
use Rattle.runs.specs.inner.Loops.{at}
use Rattle.spans.specs.inner.Spans.{looked_up}
use Rattle.spans.proofs.Fours.{given-at, joins}
use Rattle.spans.proofs.looked_up_four.Goals as goal

-- `spans::looked_up_four` meets its contract. Assumes nothing.
pub returns : goal.returns
unfolding looked_up
returns c =
    let g = given-at c.args.i c.args.base.now c.requires c.four-w.ensures.gives in
    let table = at c.args.table.now in
    rw c.join.ensures
    (joins c.entry_of-a.type_inv c.entry_of-b.type_inv c.entry_of-c.type_inv c.entry_of-d.type_inv c.args.i (looked_up c.args.table.now c.args.base.now) (c.entry_of-a.ensures ∙ ap table g.first) (c.entry_of-b.ensures ∙ ap table g.second) (c.entry_of-c.ensures ∙ ap table g.third) (c.entry_of-d.ensures ∙ ap table g.fourth))
