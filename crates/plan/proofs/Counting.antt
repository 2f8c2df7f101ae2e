-- A loop that joins a test at each place: before place i it has joined those of 0 .. i - 1. Assumes nothing.
use mathlib.Core.Path.{◌≡◌, refl, ap, ap₂, ◌∙◌}
use mathlib.Core.Bool.{Bool, true, ◌&&◌}
use Prim.Native.Nat.{ℕ, ◌+◌, ◌≤◌}
use native.Mathlib.Nat.{le_antisymm}
use native.Mathlib.Numerals.{add-one}
use Rattle.plan.specs.Rule7.{every}

module _ (test : ℕ → Bool) where
  pub none : true ≡ every 0 test
  unfolding every
  none = refl

  pub more : {a b : Bool} {i : ℕ} → a ≡ every i test → b ≡ test i → (a && b) ≡ every (i + 1) test
  unfolding every
  more e f = rw add-one (ap₂ ◌&&◌ e f)

  pub ended : {a : Bool} {i n : ℕ} → i ≤ n → n ≤ i → a ≡ every i test → a ≡ every n test
  ended h k e = e ∙ ap (λ (m : ℕ). every m test) (le_antisymm h k)
