use mathlib.Core.Path.{ap, ◌∙◌}
use mathlib.Core.List.{List}
use Prim.Native.Nat.{ℕ}
use Rattle.rows.specs.inner.Rows.{added_up_rows}
use Rattle.planes.proofs.enhanced_plane.Goals as goal

-- `planes::enhanced_plane` meets its contract. Assumes nothing.
pub returns : goal.returns
returns c =
    let a = c.args in
    c.add_up_rows.ensures
    ∙ ap (λ (t : List ℕ). added_up_rows a.mapped.now t a.cut a.p a.r a.base.now a.enhancement.now a.output.now) c.residual_table-raised.ensures
