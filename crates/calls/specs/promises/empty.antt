-- plan::empty()
use Rattle.plan.specs.Rule7.{fitting, no_plan}
use Rattle.plan.specs.declared.Plan.{Plan}
use Rattle.std.specs.Prelude.{false, ◌≡◌}

abbrev pub Keeps : Plan → Type 0
Keeps result =
    (result ≡ no_plan) × (fitting result ≡ false)

abbrev pub Post : (κs : Unit {0}) → (Unit {0}) → Plan → (Unit {0}) → Type 0
Post κs a r s = Keeps r
