use mathlib.Core.Path.{ap, ◌∙◌}
use Prim.Native.Nat.{◌-◌}
use native.Mathlib.Omega.{arith}
use borrow.Rule.Slice.PartMut.{put_mid}
use Rattle.runs.specs.inner.Loops.{at, below}
use Rattle.runs.proofs.Between.{in_between}
use Rattle.runs.proofs.Painting.{paint_none, paint_more, paint_part, painted_ahead}
use Rattle.runs.proofs.Parts.{length_part, at_part, painted-part}
use Rattle.marks.specs.inner.Marks.{based}
use Rattle.marks.proofs.put_based.Goals as goal

pub loop-mark-init : goal.loop-mark-init
loop-mark-init c = paint_none _ _ _

pub loop-mark-preserved : goal.loop-mark-preserved
loop-mark-preserved c =
    let p = c.loop-mark.invariant in
    let ahead = ap (λ r. at r c.loop-mark.mark-index) p.is ∙ painted_ahead _ _ _ _ (omega arith) in
    paint_more p (omega arith) (c.based.ensures ∙ ap based ahead)

pub returns : goal.returns
returns c =
    let a = c.args in
    let m = a.marks.now in
    let many = a.to - a.from in
    let l = length_part a.from a.to m c.requires.to_in_bounds in
    ap (put_mid a.from many m) (paint_part many c.loop-mark.invariant (omega arith))
    ∙ painted-part a.from a.to m c.requires.from_le_to c.requires.to_in_bounds (below many) _ _
    (λ j b. in_between 0 many j (omega arith) b)
    (λ j b. ap based (at_part a.from a.to m j b))
