-- residual::residual_table(h, q)
use Rattle.plan.specs.declared.Header.{Header}
use Rattle.plan.specs.declared.Nlq.{Nlq}
use Rattle.residual.specs.inner.Tables.{residual_table}
use Rattle.std.specs.Prelude.{List, ℕ, ◌≡◌}

abbrev pub Keeps : Header → Nlq → List ℕ → Type 0
Keeps h q result =
    result ≡ residual_table h q

abbrev pub Post : (κs : Unit {0}) → (Header × (Nlq × Unit {0})) → List ℕ → (Header × (Nlq × Unit {0})) → Type 0
Post κs a r s = Keeps a.0 a.1.0 r
