-- plan::methods::coefficients_used(idc, order)
use Rattle.plan.specs.Rule7.{coefficients_used}
use Rattle.std.specs.Prelude.{ℕ, ◌≡◌, ◌≤◌}

abbrev pub Keeps : ℕ → ℕ → ℕ → Type 0
Keeps idc order result =
    (result ≡ coefficients_used idc order) × (result ≤ 1793)

abbrev pub Post : (κs : Unit {0}) → (ℕ × (ℕ × Unit {0})) → ℕ → (ℕ × (ℕ × Unit {0})) → Type 0
Post κs a r s = Keeps a.0 a.1.0 r
