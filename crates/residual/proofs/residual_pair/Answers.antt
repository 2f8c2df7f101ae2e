use mathlib.Core.Path.{ap₂}
use Rattle.residual.proofs.Meaning.{residuals_filled}
use Rattle.residual.proofs.residual_pair.Goals as goal

-- `residual::residual_pair` meets its contract. Assumes nothing.
pub returns : goal.returns
returns c =
    ap₂ (λ first second. record { first = first; second = second }) (residuals_filled c.args.h c.args.a c.fill_residuals.ensures) (residuals_filled c.args.h c.args.b c.fill_residuals-2.ensures)
