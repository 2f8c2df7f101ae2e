-- spans::four(part)
use Rattle.calls.specs.Lent.{Lent}
use Rattle.spans.specs.inner.Spans.{Given, four}
use Rattle.std.specs.Prelude.{List, length, ℕ, ◌≡◌, ◌≤◌}

abbrev pub Keeps : List ℕ → ℕ → Type 0
Keeps part result =
    (result ≡ four part) × (4 ≤ length part → Given part 0 result)

abbrev pub Post : (κs : Unit {0}) → (Lent × Unit {0}) → ℕ → (Lent × Unit {0}) → Type 0
Post κs a r s = Keeps a.0.now r
