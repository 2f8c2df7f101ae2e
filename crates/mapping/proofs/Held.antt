-- Codes that come to one value, and what a loop that goes from code to code has. Assumes nothing.
use mathlib.Core.Path.{◌≡◌}
use mathlib.Core.Bool.{true}
use mathlib.Core.List.{List}
use Prim.Native.Nat.{ℕ}
use lib.IntN.{ℤ}
use lib.ListN.{length, replicate}
use Rattle.std.proofs.lemmas.List.{length-replicate, get_or-replicate}
use Rattle.runs.specs.Runs.{painted}
use Rattle.runs.proofs.Painting.{is_painted}
use Rattle.standard.specs.Mapping.{poly_sum}
use Rattle.mapping.specs.inner.Copies.{coef}
use Rattle.mapping.specs.inner.Steps.{growth, bend}

-- one value everywhere
pub all_held : (v : ℕ) (l : List ℕ) → replicate (length l) v ≡ painted (λ j. true) (λ j. v) l
all_held v l = is_painted (λ j. true) (λ j. v) l _ (length-replicate (length l) v) (λ i b. get_or-replicate (length l) i v 0 b)

-- numbers that are the sum over a row at s, its growth, and the growth of that
pub record On (depth : ℕ) (row : List ℤ) (s : ℕ) (a b c : ℤ) : Type 0 where
  pub value : a ≡ poly_sum depth s (coef row) 2
  pub growth : b ≡ growth depth row s
  pub bend : c ≡ bend depth row
