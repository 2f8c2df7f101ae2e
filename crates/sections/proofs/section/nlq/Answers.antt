-- `nlq` meets its contract: its four numbers follow each other. Assumes nothing.
use mathlib.Core.Path.{refl}
use Rattle.fields.proofs.Following.{goes_on, stops}
use Rattle.sections.specs.Sections.{nlq}
use Rattle.sections.proofs.section.nlq.Goals as goal

pub returns-in_err-offset : goal.returns-in_err-offset
unfolding nlq
returns-in_err-offset c = stops _ _ _ c.from_residual.ensures (rw (c.asked-a.ensures, c.el_depth.ensures.is) at c.in_err-offset.ensures.value)

pub returns-in_err-maximum : goal.returns-in_err-maximum
unfolding nlq
returns-in_err-maximum c =
    goes_on _ (rw (c.asked-a.ensures, c.el_depth.ensures.is) at c.in_ok-offset.ensures.value) (stops _ _ _ c.from_residual-in_err-maximum.ensures c.in_err-maximum.ensures)

pub returns-in_err-slope : goal.returns-in_err-slope
unfolding nlq
returns-in_err-slope c =
    goes_on _ (rw (c.asked-a.ensures, c.el_depth.ensures.is) at c.in_ok-offset.ensures.value) (goes_on _ c.in_ok-maximum.ensures (stops _ _ _ c.from_residual-in_err-slope.ensures c.in_err-slope.ensures))

pub returns-in_err-threshold : goal.returns-in_err-threshold
unfolding nlq
returns-in_err-threshold c =
    goes_on _ (rw (c.asked-a.ensures, c.el_depth.ensures.is) at c.in_ok-offset.ensures.value)
    (goes_on _ c.in_ok-maximum.ensures (goes_on _ c.in_ok-slope.ensures (stops _ _ _ c.from_residual-in_err-threshold.ensures c.in_err-threshold.ensures)))

pub returns : goal.returns
unfolding nlq
returns c =
    goes_on _ (rw (c.asked-a.ensures, c.el_depth.ensures.is) at c.in_ok-offset.ensures.value)
    (goes_on _ c.in_ok-maximum.ensures (goes_on _ c.in_ok-slope.ensures (goes_on _ c.in_ok-threshold.ensures refl)))
