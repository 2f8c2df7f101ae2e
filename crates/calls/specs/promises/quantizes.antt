-- rule_seven::quantizes(h, q)
use Rattle.plan.specs.Ranges.{header_fits}
use Rattle.plan.specs.Rule7.{nlq_fits}
use Rattle.plan.specs.declared.Header.{Header}
use Rattle.plan.specs.declared.Nlq.{Nlq}
use Rattle.std.specs.Prelude.{Bool, ◌&&◌, ◌≡◌}

abbrev pub Keeps : Header → Nlq → Bool → Type 0
Keeps h q result =
    result ≡ (header_fits h && nlq_fits h q)

abbrev pub Post : (κs : Unit {0}) → (Header × (Nlq × Unit {0})) → Bool → (Header × (Nlq × Unit {0})) → Type 0
Post κs a r s = Keeps a.0 a.1.0 r
