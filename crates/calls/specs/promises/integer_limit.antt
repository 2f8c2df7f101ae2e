-- plan::methods::integer_limit(idc)
use Rattle.plan.specs.Ranges.{integer_limit}
use Rattle.std.specs.Prelude.{ℕ, ◌≡◌, ◌≤◌}

abbrev pub Keeps : ℕ → ℕ → Type 0
Keeps idc result =
    (result ≡ integer_limit idc) × (result ≤ 65536)

abbrev pub Post : (κs : Unit {0}) → (ℕ × Unit {0}) → ℕ → (ℕ × Unit {0}) → Type 0
Post κs a r s = Keeps a.0 r
