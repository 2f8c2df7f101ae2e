-- writer::write(plan, version, out)
use Rattle.calls.specs.Lent.{Lent}
use Rattle.plan.specs.declared.Plan.{Plan}
use Rattle.plan.specs.inner.Facts.{Sized}
use Rattle.refusals.specs.declared.Refusal.{Refusal}
use Rattle.std.specs.Prelude.{List, Result, length, ℕ, ◌≡◌}
use Rattle.writer.specs.Writing.{answer, says, written}

abbrev pub Keeps : Plan → ℕ → List ℕ → Result ℕ Refusal → List ℕ → Type 0
Keeps plan version out result out' =
    (says result ≡ answer plan version (length out)) × ((out' ≡ written plan version out) × (Sized plan))

abbrev pub Post : (κs : Unit {0}) → (Plan × (ℕ × (Lent × Unit {0}))) → Result ℕ Refusal → (Plan × (ℕ × (Lent × Unit {0}))) → Type 0
Post κs a r s = Keeps a.0 a.1.0 a.1.1.0.now r s.1.1.0.now
