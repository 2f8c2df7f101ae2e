-- plan::ranges::FittingHeader::hdr_depth(h)
use Rattle.plan.specs.Ranges.{hdr_depth}
use Rattle.plan.specs.declared.ranges.FittingHeader.{FittingHeader}
use Rattle.std.specs.Prelude.{ℕ, ◌≡◌, ◌≤◌}

abbrev pub Keeps : FittingHeader → ℕ → Type 0
Keeps h result =
    (result ≡ hdr_depth h.header) × (result ≤ 12)

abbrev pub Post : (κs : Unit {0}) → (FittingHeader × Unit {0}) → ℕ → (FittingHeader × Unit {0}) → Type 0
Post κs a r s = Keeps a.0 r
