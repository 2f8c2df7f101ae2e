-- rules::is_used(h, enhancement)
use Rattle.plan.specs.declared.Header.{Header}
use Rattle.rules.specs.Rules.{used}
use Rattle.std.specs.Prelude.{Bool, ℕ, ◌≡◌}

abbrev pub Keeps : Header → ℕ → Bool → Type 0
Keeps h enhancement result =
    result ≡ used h enhancement

abbrev pub Post : (κs : Unit {0}) → (Header × (ℕ × Unit {0})) → Bool → (Header × (ℕ × Unit {0})) → Type 0
Post κs a r s = Keeps a.0 a.1.0 r
