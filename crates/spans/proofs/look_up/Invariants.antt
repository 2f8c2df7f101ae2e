use Prim.Native.Nat.{◌*◌}
use Rattle.runs.proofs.Painting.{PaintedFrom}
use Rattle.spans.specs.inner.Spans.{looked_up}
use Rattle.spans.proofs.look_up.Given as goal

-- `spans::look_up` meets its contract: the output is painted so far. Assumes nothing.
abbrev pub invariant-loop-t : goal.invariant-loop-t
invariant-loop-t l = PaintedFrom 0 (looked_up l.table l.base) l.initial.output (8 * l.t) l.output

abbrev pub invariant-loop-i : goal.invariant-loop-i
invariant-loop-i l = PaintedFrom l.initial.i (looked_up l.table l.base) l.initial.output l.i l.output
