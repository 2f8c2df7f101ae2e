-- What holds at each place of a list, and of what stands past its end, holds at every index. Assumes nothing.
use mathlib.Core.Path.{◌≡◌, refl, subst}
use mathlib.Core.List.{List, [], ◌∷◌}
use Prim.Native.Nat.{ℕ, zero, suc, ◌<◌, ◌≤◌, zero-le, suc-le-suc}
use native.Mathlib.Nat.{le_of_suc-le-suc, not-suc-le-zero}
use lib.ListN.{length, get_or}

-- what stands past the end
pub beyond : {A : Type 0} (l : List A) (d : A) (i : ℕ) → length l ≤ i → get_or l i d ≡ d
beyond [] d i h = refl
beyond (x ∷ l) d zero h = absurd (not-suc-le-zero h)
beyond (x ∷ l) d (suc i) h = beyond l d i (le_of_suc-le-suc h)

module _ {A : Type 0} (P : A → Type 0) where
  everywhere : (l : List A) (d : A) → P d → ((i : ℕ) → i < length l → P (get_or l i d)) → (i : ℕ) → P (get_or l i d)
  everywhere [] d z f i = z
  everywhere (x ∷ l) d z f zero = f zero (suc-le-suc zero-le)
  everywhere (x ∷ l) d z f (suc i) = everywhere l d z (λ j b. f (suc j) (suc-le-suc b)) i

  pub anywhere : (l : List A) (d : A) {n : ℕ} → length l ≡ n → P d → ((i : ℕ) → i < n → P (get_or l i d)) → (i : ℕ) → P (get_or l i d)
  anywhere l d e z f = everywhere l d z (λ i b. f i (subst (λ (m : ℕ). i < m) e b))
