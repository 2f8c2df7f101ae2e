use Rattle.runs.specs.inner.Loops.{at}
use Rattle.runs.proofs.Painting.{PaintedFrom}
use Rattle.marks.specs.inner.Marks.{based}
use Rattle.marks.proofs.put_based.Given as goal

abbrev pub invariant-loop-mark : goal.invariant-loop-mark
invariant-loop-mark l =
    PaintedFrom 0 (λ j. based (at l.initial.mark-items j)) l.initial.mark-items l.mark-index l.mark-items
