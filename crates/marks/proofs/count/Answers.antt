use mathlib.Core.Path.{◌≡◌, refl, ap, ◌∙◌}
use mathlib.Core.Bool.{true, false}
use native.Mathlib.Numerals.{add-one}
use native.Mathlib.Omega.{arith}
use lib.ListN.{get_or}
use lib.Seq.{take_all}
use borrow.Author.Tests.{eq-eqb, ne_eqb}
use Rattle.runs.specs.Runs.{tally}
use Rattle.runs.proofs.Counting.{tally_more}
use Rattle.marks.specs.inner.Marks.{has}
use Rattle.marks.proofs.count.Goals as goal

pub loop-mark-init : goal.loop-mark-init
unfolding tally
loop-mark-init c = (refl, omega arith)

pub loop-mark-preserved : goal.loop-mark-preserved
loop-mark-preserved c =
    let m = c.args.marks.now in
    let v = c.args.value in
    let i = c.loop-mark.mark-index in
    let more = tally_more (has v) m i (omega arith) in
    elim c.if-mark-value.branch [
      | goal.then-mark-value w ↦ let t : has v (get_or m i 0) ≡ true = eq-eqb _ v w.if-mark-value.true in (rw (add-one, more, t) (omega arith), omega arith)
      | goal.else-mark-value w ↦ let t : has v (get_or m i 0) ≡ false = ne_eqb _ v w.if-mark-value.false in (rw (add-one, more, t) (omega arith), omega arith)
    ]

pub returns : goal.returns
returns c =
    c.loop-mark.invariant.0 ∙ ap (tally (has c.args.value)) (take_all c.loop-mark.mark-index c.args.marks.now (omega arith))
