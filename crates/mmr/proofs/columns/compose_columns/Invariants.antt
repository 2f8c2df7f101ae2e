-- `mmr::columns::compose_columns` meets its contract. The invariant: the columns before i are painted in both rows. Assumes nothing.
use Rattle.std.proofs.Common.{◌≡◌}
use Rattle.runs.specs.Runs.{painted}
use Rattle.mmr.specs.inner.Columns.{two_rows, row_value}
use Rattle.mmr.proofs.columns.compose_columns.Given as goal

abbrev pub invariant-loop-i : goal.invariant-loop-i
invariant-loop-i l =
    l.output ≡ painted (two_rows l.p l.i) (row_value l.both l.inputs l.p) l.initial.output
