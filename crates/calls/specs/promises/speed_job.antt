-- speed::speed_job(plan, open_ticket, ticket, first, count, base, enhancement, output, marks)
use Rattle.calls.specs.Lent.{Lent}
use Rattle.jobs.specs.Jobs.{job, job_answer, marks_after, output_after}
use Rattle.plan.specs.declared.Plan.{Plan}
use Rattle.std.specs.Prelude.{List, ℕ, ◌≡◌}

abbrev pub Keeps : Plan → ℕ → ℕ → ℕ → ℕ → List ℕ → List ℕ → List ℕ → List ℕ → ℕ → List ℕ → List ℕ → Type 0
Keeps plan open_ticket ticket first count base enhancement output marks result output' marks' =
    (result ≡ (job_answer (job plan open_ticket ticket first count base enhancement) output marks).number) × ((output' ≡ output_after (job plan open_ticket ticket first count base enhancement) output marks) × (marks' ≡ marks_after (job plan open_ticket ticket first count base enhancement) output marks))

abbrev pub Post : (κs : Unit {0}) → (Plan × (ℕ × (ℕ × (ℕ × (ℕ × (Lent × (Lent × (Lent × (Lent × Unit {0}))))))))) → ℕ → (Plan × (ℕ × (ℕ × (ℕ × (ℕ × (Lent × (Lent × (Lent × (Lent × Unit {0}))))))))) → Type 0
Post κs a r s = Keeps a.0 a.1.0 a.1.1.0 a.1.1.1.0 a.1.1.1.1.0 a.1.1.1.1.1.0.now a.1.1.1.1.1.1.0.now a.1.1.1.1.1.1.1.0.now a.1.1.1.1.1.1.1.1.0.now r s.1.1.1.1.1.1.1.0.now s.1.1.1.1.1.1.1.1.0.now
