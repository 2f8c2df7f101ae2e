use Prim.Native.Nat.{min, ◌-◌}
use mathlib.Core.Path.{◌≡◌}
use lib.ListN.{length}
use Rattle.runs.proofs.Painting.{PaintedFrom}
use Rattle.sums.specs.inner.Sums.{added_up}
use Rattle.rows.specs.inner.Rows.{part_places}
use Rattle.rows.proofs.adding.add_up.Given as goal

-- `rows::adding::add_up` meets its contract: the parts so far are painted, each summed and then lowered. Assumes nothing.
abbrev pub invariant-loop-i : goal.invariant-loop-i
invariant-loop-i l = record {
  places : length l.sums ≡ part_places;
  painted : PaintedFrom 0 (added_up l.tables.mapped.now l.tables.raised.now l.tables.cut l.base l.enhancement) l.initial.output (min l.i l.n) l.output;
}

abbrev pub decreases-loop-i : goal.decreases-loop-i
decreases-loop-i l = l.n - l.i
