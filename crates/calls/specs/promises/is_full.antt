-- marks::is_full(marks, k)
use Rattle.calls.specs.Lent.{Lent}
use Rattle.marks.specs.Marks.{full_at}
use Rattle.std.specs.Prelude.{Bool, List, ℕ, ◌≡◌}

abbrev pub Keeps : List ℕ → ℕ → Bool → Type 0
Keeps marks k result =
    result ≡ full_at marks k

abbrev pub Post : (κs : Unit {0}) → (Lent × (ℕ × Unit {0})) → Bool → (Lent × (ℕ × Unit {0})) → Type 0
Post κs a r s = Keeps a.0.now a.1.0 r
