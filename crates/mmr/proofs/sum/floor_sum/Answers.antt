use mathlib.Core.Path.{◌≡◌, ap, ap₂, ◌∙◌}
use Prim.Native.Nat.{ℕ, ◌+◌, ◌*◌, ◌/◌, ◌^◌, ◌≤◌}
use native.Mathlib.Nat.{le_trans, le_of_eq, mul-le-mul, mul-le-mul_right, div-le_self}
use native.Mathlib.Omega.{arith}
use lib.Pow.{pow_pos}
use lib.IntN.{ℤ, pos, ◌+ℤ◌}
use lib.Signed.{shr_z}
use mir.Syntax.{w64}
use mir.Val.{to_z, of_z}
use Rattle.words.proofs.Holding.{Holds, number, add, add_asked, mul, mul_asked}
use Rattle.runs.specs.inner.Loops.{at}
use Rattle.mmr.specs.inner.Apart.{coef, fraction, whole_sum}
use Rattle.mmr.proofs.Apart.{whole_none, whole_more, part_none, part_more, floored}
use Rattle.mmr.proofs.Sizes.{whole_le, whole_sum_le, part_sum_le}
use Rattle.mmr.proofs.Parts.{wholes, parts, part_low, coefficient, whole}
use Rattle.mmr.proofs.sum.floor_sum.Goals.{After-part_of, At-loop-i, In-loop-i}
use Rattle.mmr.proofs.sum.floor_sum.Goals as goal

-- each number on the way, and its bound
w : (il : In-loop-i) → Holds (of_z w64 (shr_z (to_z w64 (of_z w64 (coef il.args.row.now il.loop-i.i))) (2 ^ il.args.d))) (wholes il.args.d il.args.row.now il.loop-i.i) 65536
w il =
    whole il.args.d il.requires.d_bound (coef il.args.row.now il.loop-i.i) (il.requires.sum_given.coefficient il.loop-i.i)

t : (il : In-loop-i) → Holds (at il.args.ts.now.tt il.loop-i.i) (pos (at il.args.ts.now.tt il.loop-i.i)) (2 ^ 20)
t il = number (il.args.ts.now.low il.loop-i.i) tt

so_far : (lp : At-loop-i) → Holds lp.loop-i.whole-bits (whole_sum (wholes lp.args.d lp.args.row.now) (at lp.args.ts.now.tt) lp.loop-i.i) (22 * (65536 * 2 ^ 20))
so_far lp =
    let d = lp.args.d in
    let row = lp.args.row.now in
    let l : lp.loop-i.i ≤ 22 = omega (arith, lp.loop-i.auto.i-end, lp.requires.sum_given.few) in
    record {
      is = lp.loop-i.invariant.0;
      le = le_trans (whole_sum_le (wholes d row) (at lp.args.ts.now.tt) 65536 (λ j. whole_le (coef row j) (2 ^ d) 65536 (pow_pos d) (lp.requires.sum_given.coefficient j)) lp.args.ts.now.low lp.loop-i.i) (mul-le-mul_right (65536 * 2 ^ 20) l);
    }

part_so_far : (lp : At-loop-i) → lp.loop-i.part ≤ 22 * 2 ^ 52
part_so_far lp =
    omega (arith, lp.loop-i.auto.i-end, lp.loop-i.invariant.1, lp.requires.sum_given.few, part_sum_le (parts lp.args.d lp.args.row.now) (at lp.args.ts.now.tt) (λ j. part_low lp.args.d lp.requires.d_bound (coef lp.args.row.now j)) lp.args.ts.now.low lp.loop-i.i)

shifted : (lp : At-loop-i) → Holds (lp.loop-i.part / 2 ^ lp.args.d) (pos (lp.loop-i.part / 2 ^ lp.args.d)) (22 * 2 ^ 52)
shifted lp = number (le_trans (div-le_self lp.loop-i.part (2 ^ lp.args.d)) (part_so_far lp)) tt

part_now : (c : After-part_of) → c.part_of.result ≡ parts c.args.d c.args.row.now c.loop-i.i
part_now c =
    let i = c.loop-i.i in
    c.part_of.ensures ∙ ap (λ (z : ℤ). fraction z (2 ^ c.args.d)) (coefficient c.args.d c.requires.d_bound (coef c.args.row.now i) (c.requires.sum_given.coefficient i)).is

term_now : (c : After-part_of) → c.part_of.result * at c.args.ts.now.tt c.loop-i.i ≤ 2 ^ 32 * 2 ^ 20
term_now c =
    let i = c.loop-i.i in
    mul-le-mul (le_trans (le_of_eq (part_now c)) (part_low c.args.d c.requires.d_bound (coef c.args.row.now i))) (c.args.ts.now.low i)

pub loop-i-init : goal.loop-i-init
loop-i-init c =
    (whole_none (wholes c.args.d c.args.row.now) (at c.args.ts.now.tt), part_none (parts c.args.d c.args.row.now) (at c.args.ts.now.tt))

pub overflow_mul-whole : goal.overflow_mul-whole
overflow_mul-whole c =
    let il : In-loop-i = c.before.before.before.before in
    mul_asked (w il) (t il) tt

pub overflow_add-whole : goal.overflow_add-whole
overflow_add-whole c =
    let il : In-loop-i = c.before.before.before.before in
    add_asked (so_far c.before.before.before.before.before) (mul (w il) (t il) tt) tt

pub overflow_add-part : goal.overflow_add-part
overflow_add-part c =
    omega (arith, term_now c, part_so_far c.before.before.before.before.before.before)

pub loop-i-preserved : goal.loop-i-preserved
loop-i-preserved c =
    let il : In-loop-i = c.before.before.before.before.before in
    let i = c.loop-i.i in
    let row = c.args.row.now in
    let ts = at c.args.ts.now.tt in
    let d = c.args.d in (
      (add (so_far c.before.before.before.before.before.before) (mul (w il) (t il) tt) tt).is ∙ whole_more (wholes d row) ts i,
      ap₂ (λ (a b : ℕ). a + b * ts i) c.loop-i.invariant.1 (part_now c) ∙ part_more (parts d row) ts i,
    )

pub returns : goal.returns
returns c =
    let a = c.args in
    let row = a.row.now in
    let ts = at a.ts.now.tt in
    let e : c.loop-i.i ≡ a.count = omega arith in
    (add (so_far c.before) (shifted c.before) tt).is
    ∙ ap (λ (n : ℕ). whole_sum (wholes a.d row) ts c.loop-i.i +ℤ pos (n / 2 ^ a.d)) c.loop-i.invariant.1
    ∙ floored (coef row) ts a.d c.loop-i.i ∙ ap (λ (n : ℕ). shr_z (whole_sum (coef row) ts n) (2 ^ a.d)) e

pub overflow_mul-part : goal.overflow_mul-part
overflow_mul-part c =
    omega (arith, term_now c)

pub overflow_cast-result-2 : goal.overflow_cast-result-2
overflow_cast-result-2 c =
    record { sfits = omega (arith, (shifted c.before).le) }

pub overflow_add-result : goal.overflow_add-result
overflow_add-result c =
    add_asked (so_far c.before) (shifted c.before) tt
