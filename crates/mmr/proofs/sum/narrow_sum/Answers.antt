use mathlib.Core.Path.{◌∙◌}
use Prim.Native.Nat.{◌*◌, ◌^◌, ◌≤◌}
use native.Mathlib.Nat.{le_trans, mul-le-mul_right}
use native.Mathlib.Omega.{arith}
use lib.IntN.{pos}
use mir.Syntax.{w64}
use mir.Val.{of_z}
use Rattle.words.proofs.Holding.{Holds, bounded, number, add, add_asked, mul}
use Rattle.runs.specs.inner.Loops.{at}
use Rattle.mmr.specs.inner.Apart.{coef, whole_sum, narrow_most}
use Rattle.mmr.proofs.Apart.{whole_none, whole_more}
use Rattle.mmr.proofs.Sizes.{whole_sum_le}
use Rattle.mmr.proofs.sum.narrow_sum.Goals.{At-loop-i, In-loop-i}
use Rattle.mmr.proofs.sum.narrow_sum.Goals as goal

-- each number on the way, and its bound
w : (il : In-loop-i) → Holds (of_z w64 (coef il.args.row.now il.loop-i.i)) (coef il.args.row.now il.loop-i.i) narrow_most
w il = bounded (il.requires.coefficient il.loop-i.i) tt

t : (il : In-loop-i) → Holds (at il.args.ts.now.tt il.loop-i.i) (pos (at il.args.ts.now.tt il.loop-i.i)) (2 ^ 20)
t il = number (il.args.ts.now.low il.loop-i.i) tt

so_far : (lp : At-loop-i) → Holds lp.loop-i.sum-bits (whole_sum (coef lp.args.row.now) (at lp.args.ts.now.tt) lp.loop-i.i) (22 * (narrow_most * 2 ^ 20))
so_far lp =
    let l : lp.loop-i.i ≤ 22 = omega (arith, lp.loop-i.auto.i-end, lp.requires.few) in
    record {
      is = lp.loop-i.invariant;
      le = le_trans (whole_sum_le (coef lp.args.row.now) (at lp.args.ts.now.tt) narrow_most lp.requires.coefficient lp.args.ts.now.low lp.loop-i.i) (mul-le-mul_right (narrow_most * 2 ^ 20) l);
    }

pub overflow_add-sum : goal.overflow_add-sum
overflow_add-sum c =
    let il : In-loop-i = c.before.before.before.before in
    add_asked (so_far c.before.before.before.before.before) (mul (w il) (t il) tt) tt

pub loop-i-preserved : goal.loop-i-preserved
loop-i-preserved c =
    let il : In-loop-i = c.before.before.before.before in
    let a = c.args in
    (add (so_far c.before.before.before.before.before) (mul (w il) (t il) tt) tt).is ∙ whole_more (coef a.row.now) (at a.ts.now.tt) c.loop-i.i

pub loop-i-init : goal.loop-i-init
loop-i-init c =
    whole_none (coef c.args.row.now) (at c.args.ts.now.tt)
