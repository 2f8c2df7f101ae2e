-- spans::joined_six(a, b, c, d, e, f)
use Rattle.calls.specs.Lent.{Lent}
use Rattle.spans.specs.inner.Spans.{joined_six}
use Rattle.std.specs.Prelude.{List, ℕ, ◌≡◌}

abbrev pub Keeps : List ℕ → List ℕ → List ℕ → List ℕ → List ℕ → List ℕ → ℕ → Type 0
Keeps a b c d e f result =
    result ≡ joined_six a b c d e f

abbrev pub Post : (κs : Unit {0}) → (Lent × (Lent × (Lent × (Lent × (Lent × (Lent × Unit {0})))))) → ℕ → (Lent × (Lent × (Lent × (Lent × (Lent × (Lent × Unit {0})))))) → Type 0
Post κs a r s = Keeps a.0.now a.1.0.now a.1.1.0.now a.1.1.1.0.now a.1.1.1.1.0.now a.1.1.1.1.1.0.now r
