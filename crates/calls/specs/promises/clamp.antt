-- steps::clamp(first, last, s)
use Rattle.standard.specs.Mapping.{clamped}
use Rattle.std.specs.Prelude.{ℕ, ◌≡◌}

abbrev pub Keeps : ℕ → ℕ → ℕ → ℕ → Type 0
Keeps first last s result =
    result ≡ clamped first last s

abbrev pub Post : (κs : Unit {0}) → (ℕ × (ℕ × (ℕ × Unit {0}))) → ℕ → (ℕ × (ℕ × (ℕ × Unit {0}))) → Type 0
Post κs a r s = Keeps a.0 a.1.0 a.1.1.0 r
