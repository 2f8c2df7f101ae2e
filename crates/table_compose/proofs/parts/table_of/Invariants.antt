-- `table_compose::parts::table_of` meets its contract: the samples so far are copied. Assumes nothing.
use Rattle.runs.specs.inner.Loops.{at}
use Rattle.runs.proofs.Tables.{Filled}
use Rattle.table_compose.proofs.parts.table_of.Given as goal

abbrev pub invariant-loop-s : goal.invariant-loop-s
invariant-loop-s l = Filled 1024 (at l.part) l.s l.table
