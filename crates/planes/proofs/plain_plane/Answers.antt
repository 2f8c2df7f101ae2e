use mathlib.Core.Path.{ap, ◌∙◌}
use mathlib.Core.List.{List}
use Prim.Native.Nat.{ℕ}
use Rattle.rows.specs.inner.Rows.{looked_up_rows}
use Rattle.planes.proofs.plain_plane.Goals as goal

-- `planes::plain_plane` meets its contract. Assumes nothing.
pub returns : goal.returns
returns c =
    c.look_up_rows.ensures
    ∙ ap (λ (t : List ℕ). looked_up_rows t c.args.p c.args.r c.args.marks.now c.args.base.now c.args.output.now) c.finished_table-finished.ensures
