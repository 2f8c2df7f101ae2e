use mathlib.Core.Path.{ap, ◌∙◌}
use Prim.Native.Nat.{◌<◌}
use native.Mathlib.Omega.{arith}
use lib.IntN.{pos}
use lib.ListN.{drop}
use Rattle.std.proofs.lemmas.List.{get_or-drop, get_or-take, length-take}
use Rattle.plan.specs.Rule7.{is_zero}
use Rattle.plan.proofs.Counting.{none, more}
use Rattle.plan.proofs.Testing.{back}
use Rattle.rule_seven.proofs.places.rest_is_zero.Goals as goal

pub loop-z-init : goal.loop-z-init
loop-z-init c = none _

pub loop-z-preserved : goal.loop-z-preserved
loop-z-preserved c =
    let rest = drop 3 c.args.row.now in
    let at = length-take 19 rest in
    let inside : c.loop-z.z-index < 19 = omega arith in
    more _ c.loop-z.invariant
    (c.is_zero-zero.ensures
    ∙ ap is_zero (back c.is_zero-arg-1.given ∙ get_or-take 19 rest c.loop-z.z-index (pos 0) inside ∙ get_or-drop 3 c.args.row.now c.loop-z.z-index (pos 0)))
