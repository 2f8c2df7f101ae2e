use Rattle.residual.proofs.Meaning.{residuals_filled}
use Rattle.residual.proofs.residual_table.Goals as goal

-- `residual::residual_table` meets its contract. Assumes nothing.
pub returns : goal.returns
returns c = residuals_filled c.args.h c.args.q c.fill_residuals.ensures
