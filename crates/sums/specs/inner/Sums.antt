-- What the loop over two runs of samples writes at an index: a sample that is cut out of a sum.
use Rattle.std.specs.Prelude.{List, ℕ, ◌+◌, ◌-◌, ◌/◌, ◌%◌, ◌^◌, min}
use Rattle.runs.specs.inner.Loops.{at}
use Rattle.spans.specs.inner.Spans.{entry}
use Rattle.sums.specs.declared.Cut.{Cut}

-- a sixteenth of a sum, in 15 bits
abbrev pub sixteenth : ℕ → ℕ
sixteenth sum = sum / 16 % 32768

-- and the sample that is cut out of it
unfoldable pub lower_by : Cut → ℕ → ℕ
lower_by c u = min (u / 2 ^ (c.shift % 8) - c.low) c.most

abbrev pub cut_of : Cut → ℕ → ℕ
cut_of c sum = lower_by c (sixteenth sum)

-- by tables of mapped samples and of raised residuals: their sum, in 32 bits, and the sample that is cut out of it
abbrev pub sum_of : List ℕ → List ℕ → ℕ → ℕ → ℕ
sum_of mapped raised s e = (entry mapped s + entry raised e) % 2 ^ 32

unfoldable pub summed : List ℕ → List ℕ → List ℕ → List ℕ → ℕ → ℕ
summed mapped raised base enhancement i = sum_of mapped raised (at base i) (at enhancement i)

unfoldable pub added_up : List ℕ → List ℕ → Cut → List ℕ → List ℕ → ℕ → ℕ
added_up mapped raised cuts base enhancement i = cut_of cuts (entry mapped (at base i) + entry raised (at enhancement i))

-- the second pass: a sample cut out of the sum at an index
unfoldable pub lowered_at : Cut → List ℕ → ℕ → ℕ
lowered_at c sums i = cut_of c (at sums i)
