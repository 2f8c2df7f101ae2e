use Rattle.section_writer.proofs.Sizes.{Counted}
use Rattle.section_writer.proofs.lengths.length_in.Given as goal

-- `length_in` meets its contract: the pieces passed are counted. Assumes nothing.
abbrev pub invariant-loop-q : goal.invariant-loop-q
invariant-loop-q l = Counted l.c.n l.q-items l.size l.q-index
