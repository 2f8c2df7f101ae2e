use mathlib.Core.Path.{◌≡◌}
use Prim.Native.Nat.{◌-◌, ◌≤◌}
use Rattle.runs.specs.Runs.{painted}
use Rattle.marks.specs.inner.Marks.{not_full}
use Rattle.spans.specs.inner.Spans.{looked_up}
use Rattle.picture.specs.inner.Planes.{in_rows}
use Rattle.rows.proofs.each.look_up_each.Given as goal

-- `rows::each::look_up_each` meets its contract. The invariant: those of the row pairs before k that are not full are painted. Assumes nothing.
abbrev pub invariant-loop-k : goal.invariant-loop-k
invariant-loop-k l = (l.initial.k ≤ l.k) × ((l.k ≤ l.last) × (l.output ≡ painted (in_rows l.p (not_full l.initial.k l.k l.marks)) (looked_up l.table l.base) l.initial.output))

abbrev pub decreases-loop-k : goal.decreases-loop-k
decreases-loop-k l = l.last - l.k
