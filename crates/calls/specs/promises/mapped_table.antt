-- mapping::mapped_table(h, c)
use Rattle.mapping.specs.inner.Mapped.{answer}
use Rattle.plan.specs.declared.Component.{Component}
use Rattle.plan.specs.declared.Header.{Header}
use Rattle.std.specs.Prelude.{◌≡◌, List, ℕ, Option}

abbrev pub Keeps : Header → Component → Option (List ℕ) → Type 0
Keeps h c result =
    result ≡ answer h c

abbrev pub Post : (κs : Unit {0}) → (Header × (Component × Unit {0})) → Option (List ℕ) → (Header × (Component × Unit {0})) → Type 0
Post κs a r s = Keeps a.0 a.1.0 r
