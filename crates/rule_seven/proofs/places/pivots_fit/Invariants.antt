use mathlib.Core.Path.{◌≡◌}
use mathlib.Core.Bool.{cond}
use lib.Dec.{ltb, eqb}
use lib.ListN.{get_or}
use Rattle.plan.specs.Ranges.{pivot_fits}
use Rattle.plan.specs.Rule7.{every}
use Rattle.rule_seven.proofs.places.pivots_fit.Given as goal

-- the tests so far are joined
abbrev pub invariant-loop-i : goal.invariant-loop-i
invariant-loop-i l = l.fit ≡ every l.i (λ j. cond (ltb j l.used) (pivot_fits l.h.header (get_or l.preds j 0)) (eqb (get_or l.preds j 0) 0))
