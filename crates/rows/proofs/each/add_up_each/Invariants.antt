use mathlib.Core.Path.{◌≡◌}
use Rattle.runs.specs.Runs.{painted, between}
use Rattle.sums.specs.inner.Sums.{added_up}
use Rattle.picture.specs.inner.Planes.{in_rows}
use Rattle.rows.proofs.each.add_up_each.Given as goal

-- `rows::each::add_up_each` meets its contract. The invariant: the row pairs before k are painted. Assumes nothing.
abbrev pub invariant-loop-k : goal.invariant-loop-k
invariant-loop-k l =
    l.output ≡ painted (in_rows l.p (between l.initial.k l.k)) (added_up l.tables.mapped.now l.tables.raised.now l.tables.cut l.base l.enhancement) l.initial.output
