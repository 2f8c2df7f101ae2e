-- plan::versions::copy_last(version, n, carried)
use Rattle.plan.specs.declared.Piece.{Piece}
use Rattle.plan.specs.inner.Copying.{copied}
use Rattle.std.specs.Prelude.{List, ℕ, ◌≡◌}

abbrev pub Keeps : ℕ → ℕ → List Piece → List Piece → Type 0
Keeps version n carried result =
    result ≡ copied version n carried

abbrev pub Post : (κs : Unit {0}) → (ℕ × (ℕ × (List Piece × Unit {0}))) → List Piece → (ℕ × (ℕ × (List Piece × Unit {0}))) → Type 0
Post κs a r s = Keeps a.0 a.1.0 a.1.1.0 r
