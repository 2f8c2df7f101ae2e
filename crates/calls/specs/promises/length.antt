-- writer::length(plan, version)
use Rattle.plan.specs.declared.Plan.{Plan}
use Rattle.std.specs.Prelude.{ℕ, ◌≡◌}
use Rattle.writer.specs.Writing.{Limits, block_length}

abbrev pub Keeps : Plan → ℕ → ℕ → Type 0
Keeps plan version result =
    (result ≡ block_length plan version) × (Limits plan version result)

abbrev pub Post : (κs : Unit {0}) → (Plan × (ℕ × Unit {0})) → ℕ → (Plan × (ℕ × Unit {0})) → Type 0
Post κs a r s = Keeps a.0 a.1.0 r
