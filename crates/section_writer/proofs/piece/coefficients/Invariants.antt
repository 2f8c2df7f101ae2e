use Rattle.std.proofs.Common.{pos, get_or}
use Rattle.pen.specs.Bytes.{number_bytes}
use Rattle.pen.specs.inner.Putting.{integer_bytes}
use Rattle.pen.proofs.Inking.{Turns}
use Rattle.section_writer.proofs.piece.coefficients.Given as goal

-- `coefficients` meets its contract: the first i coefficients are written. Assumes nothing.
abbrev pub invariant-loop-i : goal.invariant-loop-i
invariant-loop-i l = Turns (λ i. number_bytes (integer_bytes l.long) l.d (get_or l.row i (pos 0))) l.count l.initial.out l.at l.out l.next l.i
