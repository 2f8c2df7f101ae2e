-- jobs::early::seven_or(plan, refusal, seven), of refusals that are an A
use Rattle.plan.specs.Rule7.{fitting}
use Rattle.plan.specs.declared.Plan.{Plan}
use Rattle.std.specs.Prelude.{cond, ◌≡◌}

abbrev pub Keeps : {A : Type 0} → Plan → A → A → A → Type 0
Keeps plan refusal seven result =
    result ≡ cond (fitting plan) refusal seven

abbrev pub Post : (A : Type 0) (κs : Unit {0}) → (Plan × (A × (A × Unit {0}))) → A → (Plan × (A × (A × Unit {0}))) → Type 0
Post A κs a r s = Keeps a.0 a.1.0 a.1.1.0 r
