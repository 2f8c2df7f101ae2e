-- picture::Extent::picture_size(e)
use Rattle.picture.specs.Picture.{picture_size}
use Rattle.picture.specs.declared.Extent.{Extent}
use Rattle.std.specs.Prelude.{ℕ, ◌≡◌}

abbrev pub Keeps : Extent → ℕ → Type 0
Keeps e result =
    result ≡ picture_size e

abbrev pub Post : (κs : Unit {0}) → (Extent × Unit {0}) → ℕ → (Extent × Unit {0}) → Type 0
Post κs a r s = Keeps a.0 r
