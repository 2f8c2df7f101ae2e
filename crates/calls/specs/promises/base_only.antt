-- marks::base_only(marks)
use Rattle.calls.specs.Lent.{Lent}
use Rattle.marks.specs.Marks.{base_only}
use Rattle.runs.specs.Runs.{tally}
use Rattle.std.specs.Prelude.{List, ℕ, ◌≡◌}

abbrev pub Keeps : List ℕ → ℕ → Type 0
Keeps marks result =
    result ≡ tally base_only marks

abbrev pub Post : (κs : Unit {0}) → (Lent × Unit {0}) → ℕ → (Lent × Unit {0}) → Type 0
Post κs a r s = Keeps a.0.now r
