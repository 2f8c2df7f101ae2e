use Prim.Native.Nat.{ℕ, ◌<◌, ◌^◌}
use native.Mathlib.Nat.{le_of_lt}
use lib.IntN.{pos}
use Rattle.words.proofs.Holding.{Holds, number, sub, sub_asked}
use Rattle.residual.proofs.scaling.distance.Goals as goal

-- Two samples of 16 bits, and what lies between them. Assumes nothing.
sample : {n : ℕ} → n < 2 ^ 16 → Holds n (pos n) (2 ^ 16)
sample h = number (le_of_lt h) tt

pub returns : goal.returns
returns c = let h = sub (sample c.ranges.e.fits) (sample c.ranges.offset.fits) tt in record { is = h.is; low = rw h.is h.le }

pub overflow_sub-result : goal.overflow_sub-result
overflow_sub-result c =
    sub_asked (sample c.ranges.e.fits) (sample c.ranges.offset.fits) tt
