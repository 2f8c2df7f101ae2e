-- marks::mark(full, from, to, marks)
use Rattle.calls.specs.Lent.{Lent}
use Rattle.marks.specs.inner.Marks.{marked}
use Rattle.std.specs.Prelude.{Bool, List, ℕ, ◌≡◌}

abbrev pub Keeps : Bool → ℕ → ℕ → List ℕ → List ℕ → Type 0
Keeps full from to marks marks' =
    marks' ≡ marked full from to marks

abbrev pub Post : (κs : Unit {0}) → (Bool × (ℕ × (ℕ × (Lent × Unit {0})))) → Unit {0} → (Bool × (ℕ × (ℕ × (Lent × Unit {0})))) → Type 0
Post κs a r s = Keeps a.0 a.1.0 a.1.1.0 a.1.1.1.0.now s.1.1.1.0.now
