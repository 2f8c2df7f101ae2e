-- sums::Addends::sum_up(Addends { mapped, raised }, base, enhancement, sums)
use Rattle.calls.specs.Lent.{Lent}
use Rattle.runs.specs.Runs.{painted}
use Rattle.runs.specs.inner.Loops.{below}
use Rattle.std.specs.Prelude.{List, length, min, ℕ, ◌≡◌}
use Rattle.sums.specs.inner.Sums.{summed}

abbrev pub Keeps : List ℕ → List ℕ → List ℕ → List ℕ → List ℕ → List ℕ → Type 0
Keeps mapped raised base enhancement sums sums' =
    sums' ≡ painted (below (min (length base) (length enhancement))) (summed mapped raised base enhancement) sums

abbrev pub Post : (κs : Unit {0}) → (Lent × (Lent × (Lent × (Lent × (Lent × Unit {0}))))) → Unit {0} → (Lent × (Lent × (Lent × (Lent × (Lent × Unit {0}))))) → Type 0
Post κs a r s = Keeps a.0.now a.1.0.now a.1.1.0.now a.1.1.1.0.now a.1.1.1.1.0.now s.1.1.1.1.0.now
