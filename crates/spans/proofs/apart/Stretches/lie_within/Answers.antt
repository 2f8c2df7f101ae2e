use mathlib.Core.Path.{ap₂}
use mathlib.Core.Bool.{◌&&◌}
use Rattle.spans.specs.inner.Spans.{four_lie}
use Rattle.spans.proofs.apart.Stretches.lie_within.Goals as goal

-- `spans::apart::Stretches::lie_within` meets its contract. Assumes nothing.
pub returns : goal.returns
unfolding four_lie
returns c =
    ap₂ ◌&&◌ (ap₂ ◌&&◌ c.ends_within.ensures c.ends_within-2.ensures) (ap₂ ◌&&◌ c.ends_within-3.ensures c.ends_within-4.ensures)
