-- residual::no_residual(h)
use Rattle.plan.specs.declared.Header.{Header}
use Rattle.residual.specs.inner.Tables.{no_residual}
use Rattle.std.specs.Prelude.{List, ℕ, ◌≡◌}

abbrev pub Keeps : Header → List ℕ → Type 0
Keeps h result =
    result ≡ no_residual h

abbrev pub Post : (κs : Unit {0}) → (Header × Unit {0}) → List ℕ → (Header × Unit {0}) → Type 0
Post κs a r s = Keeps a.0 r
