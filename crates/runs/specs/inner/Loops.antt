-- What the loops over runs say of them.
use Rattle.std.specs.Prelude.{Bool, List, [], ◌∷◌, ℕ, get_or}
use Rattle.std.specs.Int.Bits.{bit_or}
use Rattle.runs.specs.Runs.{between}

-- what stands at an index; 0 past the end
abbrev pub at : List ℕ → ℕ → ℕ
at run i = get_or run i 0

-- the indices below n
abbrev pub below : ℕ → ℕ → Bool
below n = between 0 n

-- every bit that some element has, and v's: whether an element reaches a power of two
unfoldable pub joined_after : ℕ → List ℕ → ℕ
joined_after v [] = v
joined_after v (x ∷ xs) = joined_after (bit_or v x) xs

abbrev pub joined : List ℕ → ℕ
joined run = joined_after 0 run
