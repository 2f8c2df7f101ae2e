-- table_rules::refusal_of(plan, table, Work { first, count, base, enhancement }, output)
use Rattle.calls.specs.Lent.{Lent}
use Rattle.plan.specs.declared.Plan.{Plan}
use Rattle.refusals.specs.Refusals.{number_in}
use Rattle.refusals.specs.declared.Refusal.{Refusal}
use Rattle.rules.specs.Rules.{given_table, refusal}
use Rattle.std.specs.Prelude.{List, Result, ℕ, ◌≡◌}

abbrev pub Keeps : Plan → List ℕ → ℕ → ℕ → List ℕ → List ℕ → ℕ → Result (Unit {0}) Refusal → Type 0
Keeps plan table first count base enhancement output result =
    number_in result ≡ refusal (given_table plan table first count base enhancement) output

abbrev pub Post : (κs : Unit {0}) → (Plan × (Lent × (ℕ × (ℕ × (Lent × (Lent × (ℕ × Unit {0}))))))) → Result (Unit {0}) Refusal → (Plan × (Lent × (ℕ × (ℕ × (Lent × (Lent × (ℕ × Unit {0}))))))) → Type 0
Post κs a r s = Keeps a.0 a.1.0.now a.1.1.0 a.1.1.1.0 a.1.1.1.1.0.now a.1.1.1.1.1.0.now a.1.1.1.1.1.1.0 r
