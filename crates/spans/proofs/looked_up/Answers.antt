use mathlib.Core.Path.{refl}
use Rattle.spans.specs.inner.Spans.{looked_up}
use Rattle.spans.proofs.looked_up.Goals as goal

-- `spans::looked_up` meets its contract. Assumes nothing.
pub returns : goal.returns
unfolding looked_up
returns c = refl
