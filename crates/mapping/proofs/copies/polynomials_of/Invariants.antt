-- the pieces passed are copied
use Rattle.mapping.specs.inner.Copies.{Copied}
use Rattle.mapping.proofs.copies.polynomials_of.Given as goal

abbrev pub invariant-loop-p : goal.invariant-loop-p
invariant-loop-p l = Copied l.pieces l.polynomials l.p
