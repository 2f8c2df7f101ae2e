-- rows::add_up_rows(Tables { mapped, raised, cut }, p, r, base, enhancement, output)
use Rattle.calls.specs.Lent.{Lent}
use Rattle.picture.specs.declared.Plane.{Plane}
use Rattle.rows.specs.declared.Rows.{Rows}
use Rattle.rows.specs.inner.Rows.{added_up_rows}
use Rattle.std.specs.Prelude.{List, ℕ, ◌≡◌}
use Rattle.sums.specs.declared.Cut.{Cut}

abbrev pub Keeps : List ℕ → List ℕ → Cut → Plane → Rows → List ℕ → List ℕ → List ℕ → List ℕ → Type 0
Keeps mapped raised cut p r base enhancement output output' =
    output' ≡ added_up_rows mapped raised cut p r base enhancement output

abbrev pub Post : (κs : Unit {0}) → (Lent × (Lent × (Cut × (Plane × (Rows × (Lent × (Lent × (Lent × Unit {0})))))))) → Unit {0} → (Lent × (Lent × (Cut × (Plane × (Rows × (Lent × (Lent × (Lent × Unit {0})))))))) → Type 0
Post κs a r s = Keeps a.0.now a.1.0.now a.1.1.0 a.1.1.1.0 a.1.1.1.1.0 a.1.1.1.1.1.0.now a.1.1.1.1.1.1.0.now a.1.1.1.1.1.1.1.0.now s.1.1.1.1.1.1.1.0.now
