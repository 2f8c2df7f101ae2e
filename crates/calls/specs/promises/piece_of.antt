-- steps::piece_of(pivots, n, s)
use Rattle.calls.specs.Lent.{Lent}
use Rattle.plan.specs.Ranges.{most_n}
use Rattle.runs.specs.inner.Loops.{at}
use Rattle.standard.specs.Mapping.{pivot_idx}
use Rattle.std.specs.Prelude.{List, ℕ, ◌≡◌, ◌≤◌}
use Rattle.steps.specs.inner.Steps.{Rising, found}

abbrev pub Keeps : List ℕ → ℕ → ℕ → ℕ → Type 0
Keeps pivots n s result =
    (result ≡ found (at pivots) n s) × (Rising (at pivots) → n ≤ most_n → result ≡ pivot_idx (at pivots) n s)

abbrev pub Post : (κs : Unit {0}) → (Lent × (ℕ × (ℕ × Unit {0}))) → ℕ → (Lent × (ℕ × (ℕ × Unit {0}))) → Type 0
Post κs a r s = Keeps a.0.now a.1.0 a.1.1.0 r
