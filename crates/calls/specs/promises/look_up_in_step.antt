-- spans::apart::look_up_in_step(table, Stretches { a, b, c, d, n }, base, output)
use Rattle.calls.specs.Lent.{Lent}
use Rattle.spans.specs.inner.Spans.{in_step}
use Rattle.std.specs.Prelude.{List, ℕ, ◌≡◌}

abbrev pub Keeps : List ℕ → ℕ → ℕ → ℕ → ℕ → ℕ → List ℕ → List ℕ → List ℕ → Type 0
Keeps table a b c d n base output output' =
    output' ≡ in_step a b c d n table base output

abbrev pub Post : (κs : Unit {0}) → (Lent × (ℕ × (ℕ × (ℕ × (ℕ × (ℕ × (Lent × (Lent × Unit {0})))))))) → Unit {0} → (Lent × (ℕ × (ℕ × (ℕ × (ℕ × (ℕ × (Lent × (Lent × Unit {0})))))))) → Type 0
Post κs a r s = Keeps a.0.now a.1.0 a.1.1.0 a.1.1.1.0 a.1.1.1.1.0 a.1.1.1.1.1.0 a.1.1.1.1.1.1.0.now a.1.1.1.1.1.1.1.0.now s.1.1.1.1.1.1.1.0.now
