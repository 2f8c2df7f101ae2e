-- What the loops over runs of samples write at an index, and what they join. An index of a table is taken below its
-- size, so any sample is one.
use Rattle.std.specs.Prelude.{◌≡◌, Bool, ◌&&◌, ◌||◌, cond, List, ℕ, zero, suc, ◌+◌, ◌*◌, ◌/◌, ◌%◌, ◌^◌, ◌<◌, ◌≤◌, min, leb, ltb, eqb, length}
use Rattle.std.specs.Int.Bits.{bit_or}
use Rattle.runs.specs.Runs.{painted, between}
use Rattle.runs.specs.inner.Loops.{at, below}

-- what a table of 1024 places has for a sample
abbrev pub entry : List ℕ → ℕ → ℕ
entry table code = at table (code % 1024)

-- by a table of finished samples
unfoldable pub looked_up : List ℕ → List ℕ → ℕ → ℕ
looked_up table base i = entry table (at base i)

-- four samples as one number, the first one lowest; 0 where there are no four
unfoldable pub four : List ℕ → ℕ
four part = cond (ltb (length part) 4) 0 (at part 0 + at part 1 * 2 ^ 16 + at part 2 * 2 ^ 32 + at part 3 * 2 ^ 48)

-- a number that gives four samples of a run, from i on: shifted, it has the remainder of each
pub record Given (run : List ℕ) (i w : ℕ) : Type 0 where
  pub first : w % 1024 ≡ at run i % 1024
  pub second : w / 2 ^ 16 % 1024 ≡ at run (i + 1) % 1024
  pub third : w / 2 ^ 32 % 1024 ≡ at run (i + 2) % 1024
  pub fourth : w / 2 ^ 48 % 1024 ≡ at run (i + 3) % 1024

-- the samples that are joined in a number, the lowest first
unfoldable pub sample_of : ℕ → ℕ → ℕ
sample_of x k = x / 2 ^ (16 * k) % 65536

-- a number that joins four samples of a sequence, from i on
abbrev pub Joins : (ℕ → ℕ) → ℕ → ℕ → Type 0
Joins f i x = (k : ℕ) → k < 4 → sample_of x k ≡ f (i + k)

-- a run after four samples were stored at its start; as it was where it has no four
unfoldable pub put_four : ℕ → List ℕ → List ℕ
put_four x run = cond (ltb (length run) 4) run (painted (below 4) (sample_of x) run)

-- four stretches of n places, from a, b, c and d on: whether they end within so many places, by the facts and by the test; which
-- indices they have; and a run after the samples of them were looked up
module _ (a b c d n : ℕ) where
  pub record FourWithin (places : ℕ) : Type 0 where
    pub first : a + n ≤ places
    pub second : b + n ≤ places
    pub third : c + n ≤ places
    pub fourth : d + n ≤ places

  unfoldable pub four_lie : ℕ → Bool
  four_lie places = (leb (a + n) places && leb (b + n) places) && (leb (c + n) places && leb (d + n) places)

  unfoldable pub in_four : ℕ → Bool
  in_four j = ((between a (a + n) j || between b (b + n) j) || between c (c + n) j) || between d (d + n) j

  unfoldable pub in_step : List ℕ → List ℕ → List ℕ → List ℕ
  in_step table base output =
      cond (eqb (n % 32) 0 && four_lie (min (length base) (length output))) (painted in_four (looked_up table base) output) output

-- every bit that one of the first n numbers of a sequence has
unfoldable pub bits_below : (ℕ → ℕ) → ℕ → ℕ
bits_below f zero = 0
bits_below f (suc n) = bit_or (bits_below f n) (f n)

-- six runs in step: how many places all of them have, every bit that one has at a place, and every bit at those places
module _ (a b c d e f : List ℕ) where
  abbrev pub places_of_six : ℕ
  places_of_six = min (min (length a) (length b)) (min (min (length c) (length d)) (min (length e) (length f)))

  abbrev pub six_at : ℕ → ℕ
  six_at i = bit_or (bit_or (at a i) (at b i)) (bit_or (bit_or (at c i) (at d i)) (bit_or (at e i) (at f i)))

  unfoldable pub joined_six : ℕ
  joined_six = bits_below six_at places_of_six
