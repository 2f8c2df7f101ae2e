-- mmr::slice::slice_table(plan, cr)
use Rattle.mmr.specs.inner.Slice.{slice_table}
use Rattle.plan.specs.declared.Plan.{Plan}
use Rattle.std.specs.Prelude.{Bool, List, ℕ, ◌≡◌}

abbrev pub Keeps : Plan → Bool → List ℕ → Type 0
Keeps plan cr result =
    result ≡ slice_table plan cr

abbrev pub Post : (κs : Unit {0}) → (Plan × (Bool × Unit {0})) → List ℕ → (Plan × (Bool × Unit {0})) → Type 0
Post κs a r s = Keeps a.0 a.1.0 r
