-- planes::plain_planes(plan, r, marks, base, output)
use Rattle.calls.specs.Lent.{Lent}
use Rattle.plan.specs.declared.Plan.{Plan}
use Rattle.planes.specs.inner.ByTables.{plain_picture}
use Rattle.rows.specs.declared.Rows.{Rows}
use Rattle.std.specs.Prelude.{List, ℕ, ◌≡◌}

abbrev pub Keeps : Plan → Rows → List ℕ → List ℕ → List ℕ → List ℕ → Type 0
Keeps plan r marks base output output' =
    output' ≡ plain_picture plan r marks base output

abbrev pub Post : (κs : Unit {0}) → (Plan × (Rows × (Lent × (Lent × (Lent × Unit {0}))))) → Unit {0} → (Plan × (Rows × (Lent × (Lent × (Lent × Unit {0}))))) → Type 0
Post κs a r s = Keeps a.0 a.1.0 a.1.1.0.now a.1.1.1.0.now a.1.1.1.1.0.now s.1.1.1.1.0.now
