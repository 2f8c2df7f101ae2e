-- jobs::Answer::number(answer)
use Rattle.jobs.specs.Jobs.{says}
use Rattle.jobs.specs.declared.Answer.{Answer}
use Rattle.std.specs.Prelude.{ℕ, ◌≡◌}

abbrev pub Keeps : Answer → ℕ → Type 0
Keeps answer result =
    result ≡ (says answer).number

abbrev pub Post : (κs : Unit {0}) → (Answer × Unit {0}) → ℕ → (Answer × Unit {0}) → Type 0
Post κs a r s = Keeps a.0 r
