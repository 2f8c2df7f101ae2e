-- compose::makes_full(h, enhancement)
use Rattle.compose.specs.Composing.{makes_full}
use Rattle.plan.specs.declared.Header.{Header}
use Rattle.std.specs.Prelude.{Bool, ℕ, ◌≡◌}

abbrev pub Keeps : Header → ℕ → Bool → Type 0
Keeps h enhancement result =
    result ≡ makes_full h enhancement

abbrev pub Post : (κs : Unit {0}) → (Header × (ℕ × Unit {0})) → Bool → (Header × (ℕ × Unit {0})) → Type 0
Post κs a r s = Keeps a.0 a.1.0 r
