-- refusals::number(answer), of an answer that holds an A
use Rattle.refusals.specs.Refusals.{number_in}
use Rattle.refusals.specs.declared.Refusal.{Refusal}
use Rattle.std.specs.Prelude.{Result, ℕ, ◌≡◌}

abbrev pub Keeps : {A : Type 0} → Result A Refusal → ℕ → Type 0
Keeps answer result =
    result ≡ number_in answer

abbrev pub Post : (A : Type 0) (κs : Unit {0}) → (Result A Refusal × Unit {0}) → ℕ → (Result A Refusal × Unit {0}) → Type 0
Post A κs a r s = Keeps a.0 r
