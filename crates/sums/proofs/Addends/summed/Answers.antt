use Rattle.sums.specs.inner.Sums.{summed}
use Rattle.sums.proofs.Addends.summed.Goals as goal

-- `sums::Addends::summed` meets its contract. Assumes nothing.
pub returns : goal.returns
unfolding summed
returns c = c.sum_of.ensures
