-- marks::clear(marks)
use Rattle.calls.specs.Lent.{Lent}
use Rattle.marks.specs.inner.Marks.{every_pair, waiting}
use Rattle.runs.specs.Runs.{painted}
use Rattle.std.specs.Prelude.{List, ℕ, ◌≡◌}

abbrev pub Keeps : List ℕ → List ℕ → Type 0
Keeps marks marks' =
    marks' ≡ painted every_pair waiting marks

abbrev pub Post : (κs : Unit {0}) → (Lent × Unit {0}) → Unit {0} → (Lent × Unit {0}) → Type 0
Post κs a r s = Keeps a.0.now s.0.now
