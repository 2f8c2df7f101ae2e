-- rule_seven::is_usable(k, h, c)
use Rattle.plan.specs.Rule7.{usable}
use Rattle.plan.specs.declared.Component.{Component}
use Rattle.plan.specs.declared.Header.{Header}
use Rattle.std.specs.Prelude.{Bool, ℕ, ◌≡◌}

abbrev pub Keeps : ℕ → Header → Component → Bool → Type 0
Keeps k h c result =
    result ≡ usable k h c

abbrev pub Post : (κs : Unit {0}) → (ℕ × (Header × (Component × Unit {0}))) → Bool → (ℕ × (Header × (Component × Unit {0}))) → Type 0
Post κs a r s = Keeps a.0 a.1.0 a.1.1.0 r
