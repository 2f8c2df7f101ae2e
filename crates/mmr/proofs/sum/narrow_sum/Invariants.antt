use mathlib.Core.Path.{◌≡◌}
use Rattle.runs.specs.inner.Loops.{at}
use Rattle.mmr.specs.inner.Apart.{coef, whole_sum}
use Rattle.mmr.proofs.sum.narrow_sum.Given as goal

abbrev pub invariant-loop-i : goal.invariant-loop-i
invariant-loop-i l = l.sum ≡ whole_sum (coef l.row) (at l.ts.tt) l.i
