use mathlib.Core.Path.{◌≡◌}
use mathlib.Core.Bool.{cond}
use lib.Dec.{ltb}
use lib.IntN.{pos}
use lib.ListN.{get_or}
use Rattle.plan.specs.Ranges.{coefficient_fits}
use Rattle.plan.specs.Rule7.{every, is_zero}
use Rattle.rule_seven.proofs.places.places_fit.Given as goal

-- the tests so far are joined
abbrev pub invariant-loop-i : goal.invariant-loop-i
invariant-loop-i l =
    l.fit ≡ every l.i (λ j. cond (ltb j l.used) (coefficient_fits l.h.header l.idc (get_or l.row j (pos 0))) (is_zero (get_or l.row j (pos 0))))
