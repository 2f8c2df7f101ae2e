-- jobs::open_picture(plan, ticket, marks)
use Rattle.calls.specs.Lent.{Lent}
use Rattle.jobs.specs.Jobs.{opened_says, opening_answer, opening_marks}
use Rattle.plan.specs.declared.Plan.{Plan}
use Rattle.refusals.specs.declared.Refusal.{Refusal}
use Rattle.std.specs.Prelude.{List, Result, length, ℕ, ◌≡◌}

abbrev pub Keeps : Plan → ℕ → List ℕ → Result ℕ Refusal → List ℕ → Type 0
Keeps plan ticket marks result marks' =
    (opened_says result ≡ opening_answer plan ticket (length marks)) × (marks' ≡ opening_marks plan marks)

abbrev pub Post : (κs : Unit {0}) → (Plan × (ℕ × (Lent × Unit {0}))) → Result ℕ Refusal → (Plan × (ℕ × (Lent × Unit {0}))) → Type 0
Post κs a r s = Keeps a.0 a.1.0 a.1.1.0.now r s.1.1.0.now
