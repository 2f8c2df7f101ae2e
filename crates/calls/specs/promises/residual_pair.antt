-- residual::residual_pair(h, a, b)
use Rattle.plan.specs.declared.Header.{Header}
use Rattle.plan.specs.declared.Nlq.{Nlq}
use Rattle.residual.specs.declared.Pair.{Pair}
use Rattle.residual.specs.inner.Tables.{residual_pair}
use Rattle.std.specs.Prelude.{◌≡◌}

abbrev pub Keeps : Header → Nlq → Nlq → Pair → Type 0
Keeps h a b result =
    result ≡ residual_pair h a b

abbrev pub Post : (κs : Unit {0}) → (Header × (Nlq × (Nlq × Unit {0}))) → Pair → (Header × (Nlq × (Nlq × Unit {0}))) → Type 0
Post κs a r s = Keeps a.0 a.1.0 a.1.1.0 r
