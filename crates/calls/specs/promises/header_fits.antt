-- plan::ranges::header_fits(h)
use Rattle.plan.specs.Ranges.{header_fits}
use Rattle.plan.specs.declared.Header.{Header}
use Rattle.std.specs.Prelude.{Bool, ◌≡◌}

abbrev pub Keeps : Header → Bool → Type 0
Keeps h result =
    result ≡ header_fits h

abbrev pub Post : (κs : Unit {0}) → (Header × Unit {0}) → Bool → (Header × Unit {0}) → Type 0
Post κs a r s = Keeps a.0 r
