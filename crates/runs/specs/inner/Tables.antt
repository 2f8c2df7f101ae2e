-- A table: a run that a function of the index gives. Assumes nothing.
use Rattle.std.specs.Prelude.{Bool, cond, ◌&&◌, List, [], ◌∷◌, ℕ, zero, suc, ltb}

-- f 0, .., f (n - 1)
unfoldable pub table : ℕ → (ℕ → ℕ) → List ℕ
table zero f = []
table (suc n) f = f 0 ∷ table n (λ i. f (suc i))

-- f at the codes 0 .. n - 1, where they can be computed with, and else 0
unfoldable pub coded : Bool → ℕ → (ℕ → ℕ) → ℕ → ℕ
coded usable n f s = cond (usable && ltb s n) (f s) 0
