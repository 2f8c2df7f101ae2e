use Rattle.std.proofs.Common.{length, get_or}
use Rattle.pen.specs.Bytes.{bytes_of}
use Rattle.pen.proofs.Inking.{Turns}
use Rattle.section_writer.proofs.pivots.Given as goal

-- `pivots` meets its contract: the pivots passed are written. Assumes nothing.
abbrev pub invariant-loop-pred : goal.invariant-loop-pred
invariant-loop-pred l = Turns (λ i. bytes_of 2 (get_or l.preds i 0)) (length l.preds) l.initial.out l.at l.out l.next l.pred-index
