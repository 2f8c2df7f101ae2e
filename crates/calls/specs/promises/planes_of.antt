-- picture::Extent::planes(e)
use Rattle.picture.specs.declared.Extent.{Extent}
use Rattle.picture.specs.declared.Planes.{Planes}
use Rattle.picture.specs.inner.Planes.{planes}
use Rattle.std.specs.Prelude.{◌≡◌}

abbrev pub Keeps : Extent → Planes → Type 0
Keeps e result =
    result ≡ planes e

abbrev pub Post : (κs : Unit {0}) → (Extent × Unit {0}) → Planes → (Extent × Unit {0}) → Type 0
Post κs a r s = Keeps a.0 r
