use mathlib.Core.Path.{◌≡◌}
use Prim.Native.Nat.{◌+◌}
use lib.IntN.{pos}
use lib.ListN.{get_or}
use Rattle.plan.specs.Rule7.{every, is_zero}
use Rattle.rule_seven.proofs.places.rest_is_zero.Given as goal

-- the tests so far are joined
abbrev pub invariant-loop-z : goal.invariant-loop-z
invariant-loop-z l = l.zero ≡ every l.z-index (λ k. is_zero (get_or l.row (3 + k) (pos 0)))
