-- jobs::Answer::is_complete(answer)
use Rattle.jobs.specs.Jobs.{complete, says}
use Rattle.jobs.specs.declared.Answer.{Answer}
use Rattle.std.specs.Prelude.{Bool, ◌≡◌}

abbrev pub Keeps : Answer → Bool → Type 0
Keeps answer result =
    result ≡ complete (says answer)

abbrev pub Post : (κs : Unit {0}) → (Answer × Unit {0}) → Bool → (Answer × Unit {0}) → Type 0
Post κs a r s = Keeps a.0 r
