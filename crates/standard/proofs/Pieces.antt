-- What a search has to show of its answer, so that any search for the piece can be proved; and what follows of a piece. Assumes nothing.
use mathlib.Core.Path.{◌≡◌, refl, sym, ap, ap₂}
use mathlib.Core.Bool.{Bool, true, false, cond}
use mathlib.Core.Logic.{⊎_elim}
use Prim.Native.Nat.{ℕ, zero, suc, ◌+◌, ◌<◌, ◌≤◌}
use native.Mathlib.Nat.{lt_irrefl, le_refl, eq-or-lt_of_le}
use native.Mathlib.Omega.{arith}
use lib.Dec.{ltb}
use borrow.Author.Tests.{ltb-true, ltb-false}
use Rattle.standard.specs.Mapping.{first_above, pivot_idx}

module _ (pivot : ℕ → ℕ) (s : ℕ) where
  -- one turn of the loop: the test of idx, and what is found later
  turn : (idx k r later : ℕ) → idx ≤ r → ((j : ℕ) → idx ≤ j → j < r → pivot (j + 1) ≤ s) → (r < idx + suc k → s < pivot (r + 1)) → (idx + 1 ≤ r → r ≡ later) → (t : Bool) → ltb s (pivot (idx + 1)) ≡ t → r ≡ cond t idx later
  turn idx k r later lo before here rest true e =
      ⊎_elim (λ p. sym p) (λ p. absurd (lt_irrefl s (omega (arith, ltb-true s (pivot (idx + 1)) e, before idx (le_refl idx) p)))) (eq-or-lt_of_le lo)
  turn idx k r later lo before here rest false e =
      ⊎_elim (λ p. absurd (lt_irrefl s (omega (arith, ltb-false s (pivot (idx + 1)) e, ap (λ (j : ℕ). pivot (j + 1)) p, here (omega arith))))) (λ p. rest (omega arith)) (eq-or-lt_of_le lo)

  -- r is what the loop finds from idx on in k turns
  is_first : (idx k r : ℕ) → idx ≤ r → r ≤ idx + k → ((j : ℕ) → idx ≤ j → j < r → pivot (j + 1) ≤ s) → (r < idx + k → s < pivot (r + 1)) → r ≡ first_above pivot s idx k
  unfolding first_above
  is_first idx zero r lo hi before here = omega arith
  is_first idx (suc k) r lo hi before here =
      turn idx k r (first_above pivot s (idx + 1) k) lo before here
      (λ p. is_first (idx + 1) k r p (omega arith) (λ j a b. before j (omega arith) b) (λ q. here (omega arith)))
      (ltb s (pivot (idx + 1))) refl

  -- a search that stops at r, the first index up to n whose next pivot is greater than s, or n + 1, has found the piece
  pub is_idx : (n r : ℕ) → r ≤ n + 1 → ((j : ℕ) → j < r → pivot (j + 1) ≤ s) → (r < n + 1 → s < pivot (r + 1)) → r ≡ pivot_idx pivot n s
  unfolding pivot_idx
  is_idx n r hi before here = is_first 0 (n + 1) r (omega arith) (omega arith) (λ j a b. before j b) (λ q. here (omega arith))

-- the piece asks only for the pivots 1 to n + 1
pub idx_cong : (p q : ℕ → ℕ) (n s : ℕ) → ((i : ℕ) → i ≤ n + 1 → p i ≡ q i) → pivot_idx p n s ≡ pivot_idx q n s
unfolding pivot_idx first_above
idx_cong p q n s e = go 0 (n + 1) (omega arith)
  where
    go : (idx k : ℕ) → idx + k ≤ n + 1 → first_above p s idx k ≡ first_above q s idx k
    go idx zero h = refl
    go idx (suc k) h = ap₂ (λ (v later : ℕ). cond (ltb s v) idx later) (e (idx + 1) (omega arith)) (go (idx + 1) k (omega arith))

-- there are n + 2 pieces
pub idx_le : (pivot : ℕ → ℕ) (n s : ℕ) → pivot_idx pivot n s ≤ n + 1
unfolding pivot_idx first_above
idx_le pivot n s = omega (arith, go 0 (n + 1))
  where
    either : (t : Bool) (a b m : ℕ) → a ≤ m → b ≤ m → cond t a b ≤ m
    either true a b m h k = h
    either false a b m h k = k

    go : (idx k : ℕ) → first_above pivot s idx k ≤ idx + k
    go idx zero = omega arith
    go idx (suc k) = either (ltb s (pivot (idx + 1))) idx (first_above pivot s (idx + 1) k) (idx + suc k) (omega arith) (omega (arith, go (idx + 1) k))

-- of one piece and the one above it, what holds of both holds of the sample's
pub of_two : (P : ℕ → Type 0) (pivot : ℕ → ℕ) (s : ℕ) → P 0 → P 1 → P (pivot_idx pivot 0 s)
unfolding pivot_idx first_above
of_two P pivot s a b = go (ltb s (pivot 1))
  where
    go : (t : Bool) → P (cond t 0 1)
    go true = a
    go false = b
