-- plan::ranges::FittingHeader::fraction_bits(h)
use Rattle.plan.specs.declared.ranges.FittingHeader.{FittingHeader}
use Rattle.std.specs.Prelude.{ℕ, ◌≡◌, ◌≤◌}

abbrev pub Keeps : FittingHeader → ℕ → Type 0
Keeps h result =
    (result ≡ h.header.d) × (result ≤ 32)

abbrev pub Post : (κs : Unit {0}) → (FittingHeader × Unit {0}) → ℕ → (FittingHeader × Unit {0}) → Type 0
Post κs a r s = Keeps a.0 r
