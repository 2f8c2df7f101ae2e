-- picture::Plane::lies(p, first, last, n)
use Rattle.picture.specs.declared.Plane.{Plane}
use Rattle.picture.specs.inner.Planes.{lies}
use Rattle.std.specs.Prelude.{Bool, ℕ, ◌≡◌}

abbrev pub Keeps : Plane → ℕ → ℕ → ℕ → Bool → Type 0
Keeps p first last n result =
    result ≡ lies p first last n

abbrev pub Post : (κs : Unit {0}) → (Plane × (ℕ × (ℕ × (ℕ × Unit {0})))) → Bool → (Plane × (ℕ × (ℕ × (ℕ × Unit {0})))) → Type 0
Post κs a r s = Keeps a.0 a.1.0 a.1.1.0 a.1.1.1.0 r
