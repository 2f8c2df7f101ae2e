-- plan::methods::most_idc(k)
use Rattle.std.specs.Prelude.{cond, eqb, ℕ, ◌≡◌}

abbrev pub Keeps : ℕ → ℕ → Type 0
Keeps k result =
    result ≡ cond (eqb k 0) 0 1

abbrev pub Post : (κs : Unit {0}) → (ℕ × Unit {0}) → ℕ → (ℕ × Unit {0}) → Type 0
Post κs a r s = Keeps a.0 r
