-- The samples of row pairs as rule 11 goes over them: six runs of n samples. Four follow each other, luma's from y on;
-- Cb's starts at b and Cr's at r.
use Rattle.std.specs.Prelude.{Bool, ◌||◌, List, ℕ, ◌+◌, ◌*◌, ◌≤◌}
use Rattle.runs.specs.Runs.{between, some}

-- they lie within a run of `size` samples
pub record SixWithin (y b r n size : ℕ) : Type 0 where
  pub luma : y + 4 * n ≤ size
  pub cb : b + n ≤ size
  pub cr : r + n ≤ size

-- some sample of them passes a test
unfoldable pub some_in_six : ℕ → ℕ → ℕ → ℕ → (ℕ → Bool) → List ℕ → Bool
some_in_six y b r n test run =
    (some (between y (y + 4 * n)) test run || some (between b (b + n)) test run) || some (between r (r + n)) test run
