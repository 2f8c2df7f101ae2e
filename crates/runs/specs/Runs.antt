-- A run of numbers written over at selected places, a test at selected places of a run, and a count. Assumes nothing.
use Rattle.std.specs.Prelude.{Bool, false, ◌&&◌, ◌||◌, cond, List, [], ◌∷◌, ℕ, suc, ◌+◌, leb, ltb}

-- the indices from a up to, but not including, b
unfoldable pub between : ℕ → ℕ → ℕ → Bool
between a b i = leb a i && ltb i b

-- the run with f i x in the place of each element x; its first element has the index i
unfoldable pub map_from : (ℕ → ℕ → ℕ) → ℕ → List ℕ → List ℕ
map_from f i [] = []
map_from f i (x ∷ xs) = f i x ∷ map_from f (suc i) xs

-- the run with new i at each index i that is selected, and as it was elsewhere
unfoldable pub painted : (ℕ → Bool) → (ℕ → ℕ) → List ℕ → List ℕ
painted selected new run = map_from (λ i x. cond (selected i) (new i) x) 0 run

-- some element passes a test of its index and itself; the first element has the index i
unfoldable pub any_from : (ℕ → ℕ → Bool) → ℕ → List ℕ → Bool
any_from test i [] = false
any_from test i (x ∷ xs) = test i x || any_from test (suc i) xs

-- some element at a selected index passes the test
unfoldable pub some : (ℕ → Bool) → (ℕ → Bool) → List ℕ → Bool
some selected test run = any_from (λ i x. selected i && test x) 0 run

-- the test whether an element is the limit or more
unfoldable pub at_least : ℕ → ℕ → Bool
at_least limit x = leb limit x

-- how many elements pass the test
unfoldable pub tally : (ℕ → Bool) → List ℕ → ℕ
tally test [] = 0
tally test (x ∷ xs) = cond (test x) 1 0 + tally test xs
