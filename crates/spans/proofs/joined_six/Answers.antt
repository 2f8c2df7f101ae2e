use mathlib.Core.Path.{refl, ap, ◌∙◌}
use native.Mathlib.Omega.{arith}
use Rattle.spans.specs.inner.Spans.{bits_below, joined_six}
use Rattle.spans.proofs.Six.{bits_more}
use Rattle.spans.proofs.joined_six.Goals as goal

pub loop-i-init : goal.loop-i-init
unfolding bits_below
loop-i-init c = refl

pub loop-i-preserved : goal.loop-i-preserved
loop-i-preserved c =
    bits_more _ _ _ c.loop-i.invariant

pub returns : goal.returns
unfolding joined_six
returns c =
    c.loop-i.invariant ∙ ap (bits_below _) (omega arith)
