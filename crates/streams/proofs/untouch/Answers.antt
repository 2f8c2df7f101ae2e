-- `untouch` meets its contract: the run is painted up to i.
use Rattle.std.proofs.Common.{arith, ◌≡◌, ◌∙◌, length, refl, zero-le}
use Rattle.runs.proofs.Between.{in_between}
use Rattle.runs.proofs.Painting.{paint_none, paint_more, paint_part, painted_cong}
use Rattle.streams.specs.inner.Untouched.{untouched}
use Rattle.streams.proofs.untouch.Goals as goal

pub loop-i-init : goal.loop-i-init
loop-i-init c = λ h. paint_none 0 (untouched c.args.first) c.args.run.now

pub loop-i-preserved : goal.loop-i-preserved
loop-i-preserved c = λ h. paint_more (c.loop-i.invariant h) (omega arith) (omega arith)

pub returns : goal.returns
returns c = λ h.
    let e : c.loop-i.i ≡ length c.args.run.now = omega arith in
    paint_part (length c.args.run.now) (c.loop-i.invariant h) e ∙ painted_cong _ _ _ _ _ (λ i b. in_between 0 (length c.args.run.now) i zero-le b) (λ i b t. refl)
