-- filling::fill_table(plan, table)
use Rattle.calls.specs.Lent.{Lent}
use Rattle.filling.specs.Filling.{filling_answer, says, table_after}
use Rattle.plan.specs.declared.Plan.{Plan}
use Rattle.refusals.specs.declared.Refusal.{Refusal}
use Rattle.std.specs.Prelude.{List, Result, length, ℕ, ◌≡◌}

abbrev pub Keeps : Plan → List ℕ → Result (Unit {0}) Refusal → List ℕ → Type 0
Keeps plan table result table' =
    (says result ≡ filling_answer plan (length table)) × (table' ≡ table_after plan table)

abbrev pub Post : (κs : Unit {0}) → (Plan × (Lent × Unit {0})) → Result (Unit {0}) Refusal → (Plan × (Lent × Unit {0})) → Type 0
Post κs a r s = Keeps a.0 a.1.0.now r s.1.0.now
