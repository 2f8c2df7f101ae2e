-- `residual::growing::go_on` meets its contract: at each code the word holds its scaled distance, whatever the course is that it
-- began on. Assumes nothing.
use mathlib.Core.Path.{◌≡◌, sym, ap, ◌∙◌}
use Prim.Native.Nat.{ℕ, ◌+◌, ◌-◌, ◌^◌, ◌<◌, ◌≤◌}
use native.Mathlib.Nat.{le_trans, le_of_eq}
use native.Mathlib.Omega.{arith}
use lib.IntN.{ℤ, pos, nat_abs, ◌+ℤ◌}
use lib.Pow.{pow_mono}
use mir.Syntax.{w64}
use mir.Val.{to_z, of_z}
use mir.Facts.{to_z-of_z}
use Rattle.runs.proofs.Painting.{paint_none, paint_more, paint_part}
use Rattle.words.proofs.Holding.{Holds, result, add_asked}
use Rattle.standard.specs.Residual.{scaled, limit}
use Rattle.plan.specs.declared.Nlq.{Nlq}
use Rattle.residual.specs.declared.depths.Depths.{Depths}
use Rattle.residual.specs.inner.Steps.{far_of, growth, raised_by, raised_code, OneSide}
use Rattle.residual.proofs.Words.{within, read_back}
use Rattle.residual.proofs.Courses.{course, next_course, limit_le, course_le, raised_is}
use Rattle.residual.proofs.growing.go_on.Goals as goal

module _ (depths : Depths) {from to : ℕ} {q : Nlq} {sign : ℤ} (s : OneSide depths from to q sign) where
  abbrev el : ℕ
  el = depths.el

  abbrev d : ℕ
  d = depths.d

  abbrev out : ℕ
  out = depths.out

  -- the numbers that are scaled
  numbers : (q.slope ≤ 2 ^ 33) × (q.threshold ≤ 2 ^ 33)
  numbers = (within s.ranges.slope depths.fraction, within s.ranges.threshold depths.fraction)

  -- the division is by at most 2 ^ 27
  divided : d - 5 - el ≤ 27
  divided = omega (arith, depths.fraction)

  -- what a code comes to, and how much the next scaled distance is more
  comes : {most : ℕ} → pos most ≡ limit el q.maximum → (k : ℕ) → from ≤ k → k < to → raised_by out (d - 5 - el) (pos most) (course el q sign k) ≡ raised_code out el d q k
  comes em k x y = ap (λ (m : ℤ). raised_by out (d - 5 - el) m (course el q sign k)) em ∙ raised_is el d q out sign k (s.side k x y)

  next : {g : ℤ} → Holds (of_z w64 g) g (2 ^ 44) → g ≡ growth el q.slope → (k : ℕ) → course el q sign k +ℤ to_z w64 (of_z w64 g) ≡ course el q sign (k + 1)
  next held eg k = ap (λ (z : ℤ). course el q sign k +ℤ z) (held.is ∙ eg) ∙ next_course el q sign k

  -- the sign as the code has it
  signed : (e : ℕ) {x : ℤ} → x ≡ sign → course el q x e ≡ course el q sign e
  signed e h = ap (λ (z : ℤ). course el q z e) h

  -- in the loop the word holds the scaled distance
  near : (e : ℕ) → e < to → nat_abs (course el q sign e) ≤ far_of (d - 5 - el)
  near e h =
      let r = s.ranges in
      course_le el d depths.shallow depths.deep q sign e r.slope r.threshold s.offset s.unit (omega (arith, s.codes))

  now_held : {m : ℕ} (e : ℕ) → e < to → to_z w64 m ≡ course el q sign e → Holds m (course el q sign e) (2 ^ 56)
  now_held e h is = record { is = is; le = omega (arith, near e h, pow_mono {i = d - 5 - el} {j = 27} divided) }

pub overflow_sub-shift : goal.overflow_sub-shift
overflow_sub-shift c = omega (arith, c.args.depths.deep)

pub overflow_sub-shift-2 : goal.overflow_sub-shift-2
overflow_sub-shift-2 c = omega (arith, c.args.depths.deep)

pub most_of-most-requires : goal.most_of-most-requires
most_of-most-requires c = let r = c.requires.0.ranges in (c.args.depths.shallow, within r.maximum c.args.depths.fraction)

pub growth-even-requires : goal.growth-even-requires
growth-even-requires c = (c.args.depths.shallow, (numbers c.args.depths c.requires.0).0)

pub scale-dq-requires : goal.scale-dq-requires
scale-dq-requires c =
    let d = c.distance in
    let n = numbers c.args.depths c.requires.0 in
    (c.args.depths.shallow, n.0, n.1, rw (read_back d.result d.type_inv) d.ensures.low, rw (to_z-of_z c.ranges.sign) c.requires.0.unit)

pub loop-e-init : goal.loop-e-init
loop-e-init c =
    let a = c.args in
    let d = c.distance in (
      paint_none _ _ _,
      read_back c.scale-dq.result c.scale-dq.type_inv ∙ c.scale-dq.ensures
          ∙ ap (λ (z : ℤ). scaled a.depths.el a.q.slope a.q.threshold z (to_z w64 (of_z w64 a.sign))) (read_back d.result d.type_inv ∙ d.ensures.is),
    )

pub raised_by-requires : goal.raised_by-requires
raised_by-requires c =
    let a = c.args in
    let s = c.requires.0 in
    record {
      out_depth = a.depths.out_depth;
      divided = divided a.depths s;
      limit = le_trans (le_of_eq (ap nat_abs c.most_of-most.ensures)) (limit_le a.depths.el a.depths.d a.depths.shallow a.depths.deep a.q.maximum s.ranges.maximum);
      near = rw (c.loop-e.invariant.1 ∙ signed a.depths s c.loop-e.e (to_z-of_z c.ranges.sign)) (near a.depths s c.loop-e.e c.loop-e-test.true);
    }

pub loop-e-preserved : goal.loop-e-preserved
loop-e-preserved c =
    let a = c.args in
    let s = c.requires.0 in
    let p = c.loop-e.invariant.0 in
    let is = c.loop-e.invariant.1 ∙ signed a.depths s c.loop-e.e (to_z-of_z c.ranges.sign) in
    let even = result c.growth-even.type_inv c.growth-even.ensures.low in (
      paint_more p (omega (arith, s.codes, c.requires.1))
          (c.raised_by.ensures ∙ ap (raised_by a.depths.out (a.depths.d - 5 - a.depths.el) (pos c.most_of-most.result)) is ∙ comes a.depths s c.most_of-most.ensures c.loop-e.e p.from c.loop-e-test.true),
      to_z-of_z (add_asked (now_held a.depths s c.loop-e.e c.loop-e-test.true is) even tt) ∙ ap (λ (z : ℤ). z +ℤ to_z w64 (of_z w64 c.growth-even.result)) is ∙ next a.depths s even c.growth-even.ensures.is c.loop-e.e ∙ sym (signed a.depths s (c.loop-e.e + 1) (to_z-of_z c.ranges.sign)),
    )

pub returns : goal.returns
returns c = paint_part c.args.to c.loop-e.invariant.0 (omega arith)

pub bounds-table-e : goal.bounds-table-e
bounds-table-e c = omega (arith, c.requires.0.codes)

pub overflow_add-dq : goal.overflow_add-dq
overflow_add-dq c =
    add_asked (now_held c.args.depths c.requires.0 c.loop-e.e c.loop-e-test.true (c.loop-e.invariant.1 ∙ signed c.args.depths c.requires.0 c.loop-e.e (to_z-of_z c.ranges.sign))) (result {x = c.growth-even.result} c.growth-even.type_inv c.growth-even.ensures.low) tt
