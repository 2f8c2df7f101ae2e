-- How many elements of a run pass a test. Assumes nothing.
use mathlib.Core.Path.{◌≡◌, sym, ap, ◌∙◌}
use mathlib.Core.Bool.{Bool, true, false, cond}
use mathlib.Core.List.{List, [], ◌∷◌}
use Prim.Native.Nat.{ℕ, zero, suc, ◌+◌, ◌≤◌, ◌<◌, zero-le}
use native.Mathlib.Nat.{add-zero, zero-add, add_assoc, le_of_suc-le-suc, not-suc-le-zero}
use native.Mathlib.Omega.{arith}
use lib.ListN.{length, get_or, take}
use Rattle.runs.specs.Runs.{tally}

-- a count of one more element
pub tally_more : (p : ℕ → Bool) (l : List ℕ) (i : ℕ) → i < length l → tally p (take (suc i) l) ≡ tally p (take i l) + cond (p (get_or l i 0)) 1 0
unfolding tally
tally_more p [] i b = absurd (not-suc-le-zero b)
tally_more p (x ∷ xs) zero b = add-zero _ ∙ sym (zero-add _)
tally_more p (x ∷ xs) (suc i) b = ap (λ (n : ℕ). cond (p x) 1 0 + n) (tally_more p xs i (le_of_suc-le-suc b)) ∙ sym (add_assoc _ _ _)

-- a count is at most the length
pub tally_le : (p : ℕ → Bool) (l : List ℕ) → tally p l ≤ length l
unfolding tally
tally_le p [] = zero-le
tally_le p (x ∷ xs) = go (p x) (tally_le p xs)
  where
    go : (u : Bool) {n m : ℕ} → n ≤ m → cond u 1 0 + n ≤ suc m
    go true h = omega arith
    go false h = omega arith
