-- rules::extent_of(h)
use Rattle.picture.specs.declared.Extent.{Extent}
use Rattle.plan.specs.declared.Header.{Header}
use Rattle.rules.specs.Rules.{extent}
use Rattle.std.specs.Prelude.{◌≡◌}

abbrev pub Keeps : Header → Extent → Type 0
Keeps h result =
    result ≡ extent h

abbrev pub Post : (κs : Unit {0}) → (Header × Unit {0}) → Extent → (Header × Unit {0}) → Type 0
Post κs a r s = Keeps a.0 r
