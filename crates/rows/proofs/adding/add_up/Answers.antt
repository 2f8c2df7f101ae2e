use mathlib.Core.Path.{◌≡◌, ap, subst, ◌∙◌}
use mathlib.Core.List.{List}
use Prim.Native.Nat.{ℕ}
use native.Mathlib.Omega.{arith}
use lib.ListN.{length}
use Rattle.runs.proofs.Painting.{PaintedFrom, paint_none, paint_on, paint_all, length-painted}
use Rattle.rows.proofs.Parts.{in_two_passes}
use Rattle.rows.proofs.adding.add_up.Goals as goal

-- where the count goes by another name
paint_to : {f : ℕ → ℕ} {l : List ℕ} {i n : ℕ} {run : List ℕ} → PaintedFrom 0 f l i run → i ≡ n → PaintedFrom 0 f l n run
paint_to {f} {l} {i} {n} {run} p e = subst (λ (k : ℕ). PaintedFrom 0 f l k run) e p

pub loop-i-preserved : goal.loop-i-preserved
loop-i-preserved c =
    record {
      places = ap length c.sum_up.ensures ∙ length-painted _ _ _ ∙ c.loop-i.invariant.places;
      painted = paint_to (paint_on (paint_to c.loop-i.invariant.painted (omega arith)) (in_two_passes _ _ _ _ _ _ _ _ (omega arith) (omega arith) (omega arith) (omega arith) (omega arith) _ _ c.loop-i.invariant.places c.sum_up.ensures _ c.lower_all.ensures)) (omega arith);
    }

pub returns : goal.returns
returns c = paint_all _ c.loop-i.invariant.painted (omega arith)

pub loop-i-init : goal.loop-i-init
loop-i-init c =
    record { places = c.told-sums; painted = paint_to (paint_none 0 _ _) (omega arith) }

-- a turn after which none is left
pub returns-2 : goal.returns-2
returns-2 c =
    paint_all _ (paint_on (paint_to c.loop-i.invariant.painted (omega arith)) (in_two_passes _ _ _ _ _ _ _ _ (omega arith) (omega arith) (omega arith) (omega arith) (omega arith) _ _ c.loop-i.invariant.places c.sum_up.ensures _ c.lower_all.ensures)) (omega arith)
