-- planes::enhanced_plane(h, mapped, q, cut, p, r, base, enhancement, output)
use Rattle.calls.specs.Lent.{Lent}
use Rattle.picture.specs.declared.Plane.{Plane}
use Rattle.plan.specs.declared.Header.{Header}
use Rattle.plan.specs.declared.Nlq.{Nlq}
use Rattle.residual.specs.inner.Tables.{residual_table}
use Rattle.rows.specs.declared.Rows.{Rows}
use Rattle.rows.specs.inner.Rows.{added_up_rows}
use Rattle.std.specs.Prelude.{List, ℕ, ◌≡◌}
use Rattle.sums.specs.declared.Cut.{Cut}

abbrev pub Keeps : Header → List ℕ → Nlq → Cut → Plane → Rows → List ℕ → List ℕ → List ℕ → List ℕ → Type 0
Keeps h mapped q cut p r base enhancement output output' =
    output' ≡ added_up_rows mapped (residual_table h q) cut p r base enhancement output

abbrev pub Post : (κs : Unit {0}) → (Header × (Lent × (Nlq × (Cut × (Plane × (Rows × (Lent × (Lent × (Lent × Unit {0}))))))))) → Unit {0} → (Header × (Lent × (Nlq × (Cut × (Plane × (Rows × (Lent × (Lent × (Lent × Unit {0}))))))))) → Type 0
Post κs a r s = Keeps a.0 a.1.0.now a.1.1.0 a.1.1.1.0 a.1.1.1.1.0 a.1.1.1.1.1.0 a.1.1.1.1.1.1.0.now a.1.1.1.1.1.1.1.0.now a.1.1.1.1.1.1.1.1.0.now s.1.1.1.1.1.1.1.1.0.now
