-- The standard's terms as the code makes them: the second order is the first's squares, the third the first times the second.
use Rattle.std.specs.Prelude.{◌≡◌, List, ℕ, ◌*◌, ◌^◌, ◌<◌, ◌≤◌, length}
use Rattle.runs.specs.inner.Loops.{at}
use Rattle.standard.specs.Mmr.{◌>>◌}

-- three clamped samples
pub record TermsGiven (depth s0 s1 s2 : ℕ) : Type 0 where
  pub shallow : depth ≤ 10
  pub s0_low : s0 < 2 ^ depth
  pub s1_low : s1 < 2 ^ depth
  pub s2_low : s2 < 2 ^ depth

-- the product of two numbers with 20 bits of fraction, with 20 again
abbrev pub high_of : ℕ → ℕ → ℕ
high_of x y = (x * y) >> 20

-- an array that has the first n of some terms, and nothing that is large
pub record Agreed (n : ℕ) (l ts : List ℕ) : Type 0 where
  pub long : length l ≡ 22
  pub same : (i : ℕ) → i < n → at l i ≡ at ts i
  pub low : (i : ℕ) → at l i ≤ 2 ^ 20
