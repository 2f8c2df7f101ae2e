-- spans::put_four(x, part)
use Rattle.calls.specs.Lent.{Lent}
use Rattle.spans.specs.inner.Spans.{put_four}
use Rattle.std.specs.Prelude.{List, ℕ, ◌≡◌}

abbrev pub Keeps : ℕ → List ℕ → List ℕ → Type 0
Keeps x part part' =
    part' ≡ put_four x part

abbrev pub Post : (κs : Unit {0}) → (ℕ × (Lent × Unit {0})) → Unit {0} → (ℕ × (Lent × Unit {0})) → Type 0
Post κs a r s = Keeps a.0 a.1.0.now s.1.0.now
