-- residual::finished_table(h, mapped)
use Rattle.calls.specs.Lent.{Lent}
use Rattle.plan.specs.declared.Header.{Header}
use Rattle.residual.specs.inner.Tables.{finished_table}
use Rattle.std.specs.Prelude.{List, ℕ, ◌≡◌}

abbrev pub Keeps : Header → List ℕ → List ℕ → Type 0
Keeps h mapped result =
    result ≡ finished_table h mapped

abbrev pub Post : (κs : Unit {0}) → (Header × (Lent × Unit {0})) → List ℕ → (Header × (Lent × Unit {0})) → Type 0
Post κs a r s = Keeps a.0 a.1.0.now r
