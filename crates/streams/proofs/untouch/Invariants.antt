use Rattle.std.proofs.Common.{◌≤◌}
use Rattle.runs.proofs.Painting.{PaintedFrom}
use Rattle.streams.specs.inner.Untouched.{untouched}
use Rattle.streams.proofs.untouch.Given as goal

abbrev pub invariant-loop-i : goal.invariant-loop-i
invariant-loop-i l = l.first ≤ 64536 → PaintedFrom 0 (untouched l.first) l.initial.run l.i l.run
