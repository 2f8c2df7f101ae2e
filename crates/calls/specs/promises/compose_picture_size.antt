-- compose::picture_size(h)
use Rattle.picture.specs.Picture.{picture_size}
use Rattle.plan.specs.declared.Header.{Header}
use Rattle.rules.specs.Rules.{extent}
use Rattle.std.specs.Prelude.{ℕ, ◌≡◌}

abbrev pub Keeps : Header → ℕ → Type 0
Keeps h result =
    result ≡ picture_size (extent h)

abbrev pub Post : (κs : Unit {0}) → (Header × Unit {0}) → ℕ → (Header × Unit {0}) → Type 0
Post κs a r s = Keeps a.0 r
