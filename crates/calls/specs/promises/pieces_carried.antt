-- plan::versions::pieces_carried(version, n)
use Rattle.plan.specs.Versions.{pieces_carried}
use Rattle.std.specs.Prelude.{ℕ, ◌+◌, ◌≡◌, ◌≤◌}

abbrev pub Keeps : ℕ → ℕ → ℕ → Type 0
Keeps version n result =
    (result ≡ pieces_carried version n) × (result ≤ n + 2)

abbrev pub Post : (κs : Unit {0}) → (ℕ × (ℕ × Unit {0})) → ℕ → (ℕ × (ℕ × Unit {0})) → Type 0
Post κs a r s = Keeps a.0 a.1.0 r
