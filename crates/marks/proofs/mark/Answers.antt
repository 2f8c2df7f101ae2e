use mathlib.Core.Path.{sym, ap, ◌∙◌}
use mathlib.Core.Bool.{Bool, true, false}
use Rattle.marks.specs.inner.Marks.{marked}
use Rattle.marks.proofs.Marking.{all-marked, none_backward, none_beyond, part-filled, all-full, some-based}
use Rattle.marks.proofs.mark.Goals.{then-to-from-via-then-to-from, then-to-from-via-else-to-from+then-marks-to}
use Rattle.marks.proofs.mark.Goals as goal

pub returns-then-to-from : goal.returns-then-to-from
returns-then-to-from c = elim c.then-to-from.branch [
  | then-to-from-via-then-to-from w ↦ none_backward _ _ _ _ w.if-to-from.true
  | then-to-from-via-else-to-from+then-marks-to w ↦ none_beyond _ _ _ _ w.if-marks-to.true
]

pub returns-then-full : goal.returns-then-full
returns-then-full c =
    let m = c.args.marks.now in
    part-filled 1 _ _ m _ c.if-to-from.false c.if-marks-to.false (c.fill.ensures.after (λ y e. e))
    ∙ all-full c.args.from c.args.to m
    ∙ sym (all-marked c.args.from c.args.to m true c.if-to-from.false c.if-marks-to.false)
    ∙ ap (λ (u : Bool). marked u c.args.from c.args.to m) (sym c.if-full.true)

pub returns : goal.returns
returns c =
    let m = c.args.marks.now in
    c.put_based.ensures
    ∙ some-based c.args.from c.args.to m
    ∙ sym (all-marked c.args.from c.args.to m false c.if-to-from.false c.if-marks-to.false)
    ∙ ap (λ (u : Bool). marked u c.args.from c.args.to m) (sym c.if-full.false)
