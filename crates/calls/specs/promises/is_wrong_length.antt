-- rules::lengths::is_wrong_length(h, base, enhancement, output)
use Rattle.plan.specs.declared.Header.{Header}
use Rattle.rules.specs.Rules.{wrong_length}
use Rattle.std.specs.Prelude.{Bool, ℕ, ◌≡◌}

abbrev pub Keeps : Header → ℕ → ℕ → ℕ → Bool → Type 0
Keeps h base enhancement output result =
    result ≡ wrong_length h base enhancement output

abbrev pub Post : (κs : Unit {0}) → (Header × (ℕ × (ℕ × (ℕ × Unit {0})))) → Bool → (Header × (ℕ × (ℕ × (ℕ × Unit {0})))) → Type 0
Post κs a r s = Keeps a.0 a.1.0 a.1.1.0 a.1.1.1.0 r
