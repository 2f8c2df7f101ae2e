-- spans::look_up(table, base, output)
use Rattle.calls.specs.Lent.{Lent}
use Rattle.runs.specs.Runs.{painted}
use Rattle.runs.specs.inner.Loops.{below}
use Rattle.spans.specs.inner.Spans.{looked_up}
use Rattle.std.specs.Prelude.{List, length, ℕ, ◌≡◌}

abbrev pub Keeps : List ℕ → List ℕ → List ℕ → List ℕ → Type 0
Keeps table base output output' =
    output' ≡ painted (below (length base)) (looked_up table base) output

abbrev pub Post : (κs : Unit {0}) → (Lent × (Lent × (Lent × Unit {0}))) → Unit {0} → (Lent × (Lent × (Lent × Unit {0}))) → Type 0
Post κs a r s = Keeps a.0.now a.1.0.now a.1.1.0.now s.1.1.0.now
