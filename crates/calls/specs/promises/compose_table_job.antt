-- table_jobs::compose_table_job(plan, table, open_ticket, ticket, first, count, base, enhancement, output, marks)
use Rattle.calls.specs.Lent.{Lent}
use Rattle.jobs.specs.Jobs.{job_answer, marks_after, output_after, says, table_job}
use Rattle.jobs.specs.declared.Answer.{Answer}
use Rattle.plan.specs.declared.Plan.{Plan}
use Rattle.std.specs.Prelude.{List, ℕ, ◌≡◌}

abbrev pub Keeps : Plan → List ℕ → ℕ → ℕ → ℕ → ℕ → List ℕ → List ℕ → List ℕ → List ℕ → Answer → List ℕ → List ℕ → Type 0
Keeps plan table open_ticket ticket first count base enhancement output marks result output' marks' =
    (says result ≡ job_answer (table_job plan table open_ticket ticket first count base enhancement) output marks) × ((output' ≡ output_after (table_job plan table open_ticket ticket first count base enhancement) output marks) × (marks' ≡ marks_after (table_job plan table open_ticket ticket first count base enhancement) output marks))

abbrev pub Post : (κs : Unit {0}) → (Plan × (Lent × (ℕ × (ℕ × (ℕ × (ℕ × (Lent × (Lent × (Lent × (Lent × Unit {0})))))))))) → Answer → (Plan × (Lent × (ℕ × (ℕ × (ℕ × (ℕ × (Lent × (Lent × (Lent × (Lent × Unit {0})))))))))) → Type 0
Post κs a r s = Keeps a.0 a.1.0.now a.1.1.0 a.1.1.1.0 a.1.1.1.1.0 a.1.1.1.1.1.0 a.1.1.1.1.1.1.0.now a.1.1.1.1.1.1.1.0.now a.1.1.1.1.1.1.1.1.0.now a.1.1.1.1.1.1.1.1.1.0.now r s.1.1.1.1.1.1.1.1.0.now s.1.1.1.1.1.1.1.1.1.0.now
