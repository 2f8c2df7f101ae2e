-- residual::cut_numbers(h)
use Rattle.plan.specs.declared.Header.{Header}
use Rattle.residual.specs.inner.Tables.{cut_numbers}
use Rattle.std.specs.Prelude.{◌≡◌}
use Rattle.sums.specs.declared.Cut.{Cut}

abbrev pub Keeps : Header → Cut → Type 0
Keeps h result =
    result ≡ cut_numbers h

abbrev pub Post : (κs : Unit {0}) → (Header × Unit {0}) → Cut → (Header × Unit {0}) → Type 0
Post κs a r s = Keeps a.0 r
