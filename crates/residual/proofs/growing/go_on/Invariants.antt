-- The codes so far are painted, and the word holds the scaled distance of the next one. Assumes nothing.
use mathlib.Core.Path.{◌≡◌}
use Rattle.runs.proofs.Painting.{PaintedFrom}
use Rattle.residual.specs.inner.Steps.{raised_code}
use Rattle.residual.proofs.Courses.{course}
use Rattle.residual.proofs.growing.go_on.Given as goal

abbrev pub invariant-loop-e : goal.invariant-loop-e
invariant-loop-e l =
    PaintedFrom l.fn.from (raised_code l.fn.depths.out l.fn.depths.el l.fn.depths.d l.fn.q) l.initial.table l.e l.table × (l.dq ≡ course l.fn.depths.el l.fn.q l.fn.sign l.e)
