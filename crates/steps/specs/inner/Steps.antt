-- What the steps give, whatever they are handed.
use Rattle.std.specs.Prelude.{cond, List, [], ◌∷◌, ℕ, zero, suc, ◌+◌, ◌/◌, ◌%◌, ◌^◌, ◌<◌, ◌≤◌, min, leb, ℤ}
use Rattle.runs.specs.inner.Loops.{at}
use Rattle.runs.specs.inner.Tables.{table}
use Rattle.standard.specs.Mapping.{pivot_value, from_zero}
use Rattle.plan.specs.Rule7.{pivot_places}

-- the pivots, in 16 bits; they rise, whatever the predictions are
abbrev pub pivot_table : List ℕ → List ℕ
pivot_table preds = table pivot_places (λ i. min (pivot_value (at preds) i) 65535)

-- of the pivots above the place low the one at a distance is not greater than s, and is passed; or it is not
abbrev pub passed : (ℕ → ℕ) → ℕ → ℕ → ℕ → ℕ
passed pivot s low half = cond (leb (pivot (low + half)) s) (low + half) low

-- how many pivots are passed, by one comparison for each of these distances
unfoldable pub halved : (ℕ → ℕ) → ℕ → List ℕ → ℕ → ℕ
halved pivot s [] low = low
halved pivot s (half ∷ rest) low = halved pivot s rest (passed pivot s low half)

abbrev pub halves : ℕ → List ℕ
halves zero = 1 ∷ []
halves (suc n) = 8 ∷ 4 ∷ 2 ∷ 1 ∷ 1 ∷ []

abbrev pub Rising : (ℕ → ℕ) → Type 0
Rising pivot = (i k : ℕ) → i ≤ k → k < pivot_places → pivot i ≤ pivot k

-- what halving finds; the piece, where pivots rise
unfoldable pub found : (ℕ → ℕ) → ℕ → ℕ → ℕ
found pivot n s = min (halved pivot s (halves n) 0) (n + 1)

-- a shift by less than 64
abbrev pub cut_by : ℕ → ℤ → ℕ
cut_by d v = min (from_zero v / 2 ^ ((4 + d) % 64)) 65535
