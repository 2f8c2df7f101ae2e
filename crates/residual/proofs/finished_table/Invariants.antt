use lib.IntN.{pos}
use Rattle.runs.specs.inner.Loops.{at}
use Rattle.runs.proofs.Tables.{Filled}
use Rattle.standard.specs.Residual.{reconstructed}
use Rattle.residual.proofs.finished_table.Given as goal

-- `residual::finished_table` meets its contract: zeros, or a loop in which the places passed have their samples. Assumes nothing.
abbrev pub invariant-loop-s : goal.invariant-loop-s
invariant-loop-s l = Filled 1024 (λ j. reconstructed l.out (at l.mapped j) (pos 0)) l.s l.table
