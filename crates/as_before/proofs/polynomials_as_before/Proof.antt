-- `polynomials_as_before` carries its theorem. Assumes nothing.
use Rattle.as_before.proofs.Polynomials.{polynomials_as_before}
use Rattle.as_before.proofs.polynomials_as_before.Statement.{statement}
use Rattle.as_before.proofs.polynomials_as_before.Tie as tie

pub polynomials_as_before_spec : {M : Type 1} → statement M
polynomials_as_before_spec = tie.close (tie.spec (λ c. polynomials_as_before))
