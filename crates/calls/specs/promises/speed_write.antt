-- speed::speed_write(plan, version, out)
use Rattle.calls.specs.Lent.{Lent}
use Rattle.plan.specs.declared.Plan.{Plan}
use Rattle.std.specs.Prelude.{List, length, ℕ, ◌≡◌}
use Rattle.writer.specs.Writing.{answer, written}

abbrev pub Keeps : Plan → ℕ → List ℕ → ℕ → List ℕ → Type 0
Keeps plan version out result out' =
    (result ≡ (answer plan version (length out)).number) × (out' ≡ written plan version out)

abbrev pub Post : (κs : Unit {0}) → (Plan × (ℕ × (Lent × Unit {0}))) → ℕ → (Plan × (ℕ × (Lent × Unit {0}))) → Type 0
Post κs a r s = Keeps a.0 a.1.0 a.1.1.0.now r s.1.1.0.now
