-- filling::table_size(h)
use Rattle.plan.specs.Ranges.{header_fits}
use Rattle.plan.specs.Tables.{table_size}
use Rattle.plan.specs.declared.Header.{Header}
use Rattle.std.specs.Prelude.{cond, ℕ, ◌≡◌}

abbrev pub Keeps : Header → ℕ → Type 0
Keeps h result =
    result ≡ cond (header_fits h) (table_size h) 0

abbrev pub Post : (κs : Unit {0}) → (Header × Unit {0}) → ℕ → (Header × Unit {0}) → Type 0
Post κs a r s = Keeps a.0 r
