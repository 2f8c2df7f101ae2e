-- planes::plain_plane(h, mapped, p, r, marks, base, output)
use Rattle.calls.specs.Lent.{Lent}
use Rattle.picture.specs.declared.Plane.{Plane}
use Rattle.plan.specs.declared.Header.{Header}
use Rattle.residual.specs.inner.Tables.{finished_table}
use Rattle.rows.specs.declared.Rows.{Rows}
use Rattle.rows.specs.inner.Rows.{looked_up_rows}
use Rattle.std.specs.Prelude.{List, ℕ, ◌≡◌}

abbrev pub Keeps : Header → List ℕ → Plane → Rows → List ℕ → List ℕ → List ℕ → List ℕ → Type 0
Keeps h mapped p r marks base output output' =
    output' ≡ looked_up_rows (finished_table h mapped) p r marks base output

abbrev pub Post : (κs : Unit {0}) → (Header × (Lent × (Plane × (Rows × (Lent × (Lent × (Lent × Unit {0}))))))) → Unit {0} → (Header × (Lent × (Plane × (Rows × (Lent × (Lent × (Lent × Unit {0}))))))) → Type 0
Post κs a r s = Keeps a.0 a.1.0.now a.1.1.0 a.1.1.1.0 a.1.1.1.1.0.now a.1.1.1.1.1.0.now a.1.1.1.1.1.1.0.now s.1.1.1.1.1.1.0.now
