use Rattle.standard.proofs.Examples.{residuals}
use Rattle.standard.proofs.worked_residuals.Statement.{statement}
use Rattle.standard.proofs.worked_residuals.Tie as tie

returns : tie.Need-returns
returns c = residuals

pub worked_residuals_spec : {M : Type 1} → statement M
worked_residuals_spec = tie.close (tie.spec returns)
