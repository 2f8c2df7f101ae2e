-- `version_one_as_before` carries its theorem. Assumes nothing.
use Rattle.as_before.proofs.Theorem.{version_one_as_before}
use Rattle.as_before.proofs.version_one_as_before.Statement.{statement}
use Rattle.as_before.proofs.version_one_as_before.Tie as tie

pub version_one_as_before_spec : {M : Type 1} → statement M
version_one_as_before_spec = tie.close (tie.spec (λ c. version_one_as_before))
