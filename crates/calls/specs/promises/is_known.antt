-- plan::versions::is_known(version)
use Rattle.plan.specs.Versions.{known_version}
use Rattle.std.specs.Prelude.{Bool, ℕ, ◌≡◌}

abbrev pub Keeps : ℕ → Bool → Type 0
Keeps version result =
    result ≡ known_version version

abbrev pub Post : (κs : Unit {0}) → (ℕ × Unit {0}) → Bool → (ℕ × Unit {0}) → Type 0
Post κs a r s = Keeps a.0 r
