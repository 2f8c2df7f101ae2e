-- steps::cut_at(d, v)
use Rattle.std.specs.Prelude.{ℕ, ℤ, ◌≡◌}
use Rattle.steps.specs.inner.Steps.{cut_by}

abbrev pub Keeps : ℕ → ℤ → ℕ → Type 0
Keeps d v result =
    result ≡ cut_by d v

abbrev pub Post : (κs : Unit {0}) → (ℕ × (ℤ × Unit {0})) → ℕ → (ℕ × (ℤ × Unit {0})) → Type 0
Post κs a r s = Keeps a.0 a.1.0 r
