-- steps::pivots_of(preds)
use Rattle.std.specs.Prelude.{List, ℕ, ◌≡◌}
use Rattle.steps.specs.inner.Steps.{pivot_table}

abbrev pub Keeps : List ℕ → List ℕ → Type 0
Keeps preds result =
    result ≡ pivot_table preds

abbrev pub Post : (κs : Unit {0}) → (List ℕ × Unit {0}) → List ℕ → (List ℕ × Unit {0}) → Type 0
Post κs a r s = Keeps a.0 r
