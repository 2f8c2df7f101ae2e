-- rule_seven::all_polynomials(plan)
use Rattle.plan.specs.Rule7.{fitting}
use Rattle.plan.specs.Tables.{has_mmr}
use Rattle.plan.specs.declared.Plan.{Plan}
use Rattle.std.specs.Prelude.{Bool, not, ◌&&◌, ◌≡◌}

abbrev pub Keeps : Plan → Bool → Type 0
Keeps plan result =
    result ≡ (fitting plan && not (has_mmr plan))

abbrev pub Post : (κs : Unit {0}) → (Plan × Unit {0}) → Bool → (Plan × Unit {0}) → Type 0
Post κs a r s = Keeps a.0 r
