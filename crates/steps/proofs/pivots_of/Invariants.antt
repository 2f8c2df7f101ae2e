-- The pivots up to i are there, and the sum is that of the predictions passed. Assumes nothing.
use mathlib.Core.Path.{◌≡◌}
use Prim.Native.Nat.{◌*◌, ◌≤◌, min}
use Rattle.plan.specs.Rule7.{pivot_places}
use Rattle.runs.specs.inner.Loops.{at}
use Rattle.runs.proofs.Tables.{Filled}
use Rattle.standard.specs.Mapping.{pivot_value}
use Rattle.standard.proofs.Pivots.{total}
use Rattle.steps.proofs.pivots_of.Given as goal

abbrev pub invariant-loop-i : goal.invariant-loop-i
invariant-loop-i l = record {
  small : l.sum ≤ l.i * 65535;
  total : l.sum ≡ total (at l.pred-items) l.i;
  filled : Filled pivot_places (λ j. min (pivot_value (at l.pred-items) j) 65535) l.i l.pivots;
}
