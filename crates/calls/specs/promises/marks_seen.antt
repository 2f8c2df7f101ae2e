-- compose::marks_seen(h, marks)
use Rattle.compose.specs.inner.Seen.{marks_seen}
use Rattle.plan.specs.declared.Header.{Header}
use Rattle.std.specs.Prelude.{ℕ, ◌≡◌, ◌≤◌}

abbrev pub Keeps : Header → ℕ → ℕ → Type 0
Keeps h marks result =
    (result ≡ marks_seen h marks) × (result ≤ marks)

abbrev pub Post : (κs : Unit {0}) → (Header × (ℕ × Unit {0})) → ℕ → (Header × (ℕ × Unit {0})) → Type 0
Post κs a r s = Keeps a.0 a.1.0 r
