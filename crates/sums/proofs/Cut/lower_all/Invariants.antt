use Rattle.runs.proofs.Painting.{PaintedFrom}
use Rattle.sums.specs.inner.Sums.{lowered_at}
use Rattle.sums.proofs.Cut.lower_all.Given as goal

-- `sums::Cut::lower_all` meets its contract. Assumes nothing.
abbrev pub invariant-loop-i : goal.invariant-loop-i
invariant-loop-i l = PaintedFrom 0 (lowered_at l.self l.sums) l.initial.output l.i l.output
