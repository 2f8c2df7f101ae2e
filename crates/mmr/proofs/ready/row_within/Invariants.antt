-- `mmr::ready::row_within` meets its contract: the tests so far are joined. Assumes nothing.
use Rattle.std.proofs.Common.{◌≡◌}
use mathlib.Core.Bool.{cond}
use lib.Dec.{leb, ltb}
use lib.IntN.{nat_abs}
use Rattle.plan.specs.Rule7.{every, is_zero}
use Rattle.mmr.specs.inner.Apart.{coef}
use Rattle.mmr.proofs.ready.row_within.Given as goal

abbrev pub invariant-loop-i : goal.invariant-loop-i
invariant-loop-i l = l.within ≡ every l.i (λ j. cond (ltb j l.used) (leb (nat_abs (coef l.row j)) l.most) (is_zero (coef l.row j)))
