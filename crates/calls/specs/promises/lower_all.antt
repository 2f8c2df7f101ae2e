-- sums::Cut::lower_all(cut, sums, output)
use Rattle.calls.specs.Lent.{Lent}
use Rattle.runs.specs.Runs.{painted}
use Rattle.runs.specs.inner.Loops.{below}
use Rattle.std.specs.Prelude.{List, length, ℕ, ◌≡◌}
use Rattle.sums.specs.declared.Cut.{Cut}
use Rattle.sums.specs.inner.Sums.{lowered_at}

abbrev pub Keeps : Cut → List ℕ → List ℕ → List ℕ → Type 0
Keeps cut sums output output' =
    output' ≡ painted (below (length sums)) (lowered_at cut sums) output

abbrev pub Post : (κs : Unit {0}) → (Cut × (Lent × (Lent × Unit {0}))) → Unit {0} → (Cut × (Lent × (Lent × Unit {0}))) → Type 0
Post κs a r s = Keeps a.0 a.1.0.now a.1.1.0.now s.1.1.0.now
