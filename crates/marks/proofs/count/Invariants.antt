use mathlib.Core.Path.{◌≡◌}
use Prim.Native.Nat.{◌≤◌}
use lib.ListN.{take}
use Rattle.runs.specs.Runs.{tally}
use Rattle.marks.specs.inner.Marks.{has}
use Rattle.marks.proofs.count.Given as goal

abbrev pub invariant-loop-mark : goal.invariant-loop-mark
invariant-loop-mark l =
    (l.many ≡ tally (has l.value) (take l.mark-index l.marks)) × (l.many ≤ l.mark-index)
