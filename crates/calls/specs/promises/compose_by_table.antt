-- table_compose::compose_by_table(plan, table, first, count, base, enhancement, marks, output)
use Rattle.calls.specs.Lent.{Lent}
use Rattle.compose.specs.Composing.{answer, output_after, says}
use Rattle.plan.specs.declared.Plan.{Plan}
use Rattle.refusals.specs.declared.Refusal.{Refusal}
use Rattle.rules.specs.Rules.{given_table}
use Rattle.std.specs.Prelude.{List, Result, length, ℕ, ◌≡◌}

abbrev pub Keeps : Plan → List ℕ → ℕ → ℕ → List ℕ → List ℕ → List ℕ → List ℕ → Result (Unit {0}) Refusal → List ℕ → Type 0
Keeps plan table first count base enhancement marks output result output' =
    (says result ≡ answer (given_table plan table first count base enhancement) (length output)) × (output' ≡ output_after (given_table plan table first count base enhancement) marks output)

abbrev pub Post : (κs : Unit {0}) → (Plan × (Lent × (ℕ × (ℕ × (Lent × (Lent × (Lent × (Lent × Unit {0})))))))) → Result (Unit {0}) Refusal → (Plan × (Lent × (ℕ × (ℕ × (Lent × (Lent × (Lent × (Lent × Unit {0})))))))) → Type 0
Post κs a r s = Keeps a.0 a.1.0.now a.1.1.0 a.1.1.1.0 a.1.1.1.1.0.now a.1.1.1.1.1.0.now a.1.1.1.1.1.1.0.now a.1.1.1.1.1.1.1.0.now r s.1.1.1.1.1.1.1.0.now
