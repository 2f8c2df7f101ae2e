-- refusals::Refusal::number(refusal)
use Rattle.refusals.specs.Refusals.{number_of}
use Rattle.refusals.specs.declared.Refusal.{Refusal}
use Rattle.std.specs.Prelude.{ℕ, ◌≡◌}

abbrev pub Keeps : Refusal → ℕ → Type 0
Keeps refusal result =
    result ≡ number_of refusal

abbrev pub Post : (κs : Unit {0}) → (Refusal × Unit {0}) → ℕ → (Refusal × Unit {0}) → Type 0
Post κs a r s = Keeps a.0 r
