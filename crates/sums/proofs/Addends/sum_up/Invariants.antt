use Prim.Native.Nat.{◌*◌}
use Rattle.runs.proofs.Painting.{PaintedFrom}
use Rattle.sums.specs.inner.Sums.{summed}
use Rattle.sums.proofs.Addends.sum_up.Given as goal

-- `sums::Addends::sum_up` meets its contract: the sums so far are there. Assumes nothing.
abbrev pub invariant-loop-t : goal.invariant-loop-t
invariant-loop-t l = PaintedFrom 0 (summed l.self.mapped.now l.self.raised.now l.base l.enhancement) l.initial.sums (4 * l.t) l.sums

abbrev pub invariant-loop-i : goal.invariant-loop-i
invariant-loop-i l = PaintedFrom l.initial.i (summed l.self.mapped.now l.self.raised.now l.base l.enhancement) l.initial.sums l.i l.sums
