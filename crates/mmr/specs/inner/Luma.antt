-- The down-sampled luma sample, where two rows of luma lie one after the other in a run.
use Rattle.std.specs.Prelude.{List, ℕ, ◌+◌, ◌*◌}
use Rattle.runs.specs.inner.Loops.{at}
use Rattle.standard.specs.Mmr.{◌>>◌, down_sampled}

-- a row's sum, by its three samples
abbrev pub weighted : ℕ → ℕ → ℕ → ℕ
weighted a b c = (a + 2 * b + c + 2) >> 2

-- a row of samples that begins at an index of a run
abbrev pub row_from : List ℕ → ℕ → ℕ → ℕ
row_from run start x = at run (start + x)

unfoldable pub luma_beside : List ℕ → ℕ → ℕ → ℕ → ℕ
luma_beside run w upper i = down_sampled w (row_from run upper) (row_from run (upper + w)) i
