-- plan::methods::most_order(idc)
use Rattle.std.specs.Prelude.{cond, eqb, ℕ, ◌≡◌}

abbrev pub Keeps : ℕ → ℕ → Type 0
Keeps idc result =
    result ≡ cond (eqb idc 1) 2 1

abbrev pub Post : (κs : Unit {0}) → (ℕ × Unit {0}) → ℕ → (ℕ × Unit {0}) → Type 0
Post κs a r s = Keeps a.0 r
