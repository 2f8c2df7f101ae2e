-- plan::ranges::FittingHeader::el_depth(h)
use Rattle.plan.specs.Ranges.{el_depth}
use Rattle.plan.specs.declared.ranges.FittingHeader.{FittingHeader}
use Rattle.std.specs.Prelude.{ℕ, ◌≡◌, ◌≤◌}

abbrev pub Keeps : FittingHeader → ℕ → Type 0
Keeps h result =
    (result ≡ el_depth h.header) × (result ≤ 10)

abbrev pub Post : (κs : Unit {0}) → (FittingHeader × Unit {0}) → ℕ → (FittingHeader × Unit {0}) → Type 0
Post κs a r s = Keeps a.0 r
