use mathlib.Core.List.{List}
use Prim.Native.Nat.{◌-◌, ◌≤◌}
use lib.IntN.{ℤ}
use Rattle.runs.proofs.Painting.{PaintedFrom}
use Rattle.mapping.specs.inner.Steps.{by_row}
use Rattle.mapping.proofs.Held.{On}
use Rattle.mapping.proofs.table.go_on.Given as goal

abbrev pub invariant-loop-s : goal.invariant-loop-s
invariant-loop-s l =
    (l.s ≤ l.to) × ((row : List ℤ) → On l.scale.depth row l.from l.initial.value l.initial.growth l.bend → PaintedFrom l.from (by_row l.scale.depth l.scale.d row) l.initial.table l.s l.table × On l.scale.depth row l.s l.value l.growth l.bend)

abbrev pub decreases-loop-s : goal.decreases-loop-s
decreases-loop-s l = l.to - l.s
