-- jobs::early::is_marked(plan, marks)
use Rattle.plan.specs.declared.Plan.{Plan}
use Rattle.std.specs.Prelude.{Bool, eqb, ℕ, ◌≡◌}

abbrev pub Keeps : Plan → ℕ → Bool → Type 0
Keeps plan marks result =
    result ≡ eqb marks plan.header.pairs

abbrev pub Post : (κs : Unit {0}) → (Plan × (ℕ × Unit {0})) → Bool → (Plan × (ℕ × Unit {0})) → Type 0
Post κs a r s = Keeps a.0 a.1.0 r
