-- `mapping::table::go_on` meets its contract: at each code the words hold the sum and its growth, whatever row they began with.
-- Assumes nothing.
use borrow.Author.Rules.{rules}
use mathlib.Core.Path.{ap, ap₂, ◌∙◌}
use Prim.Native.Nat.{ℕ, ◌^◌, ◌≤◌}
use native.Mathlib.Nat.{le_trans, le_of_eq}
use native.Mathlib.Omega.{arith}
use lib.IntN.{nat_abs, ◌+ℤ◌}
use lib.Pow.{pow_mono}
use mir.Syntax.{w64}
use mir.Val.{to_z, of_z}
use mir.Facts.{to_z-of_z}
use Rattle.runs.proofs.Painting.{paint_none, paint_more, paint_part}
use Rattle.standard.specs.Mapping.{poly_sum}
use Rattle.steps.specs.inner.Steps.{cut_by}
use Rattle.steps.proofs.Small.{is_cut}
use Rattle.words.proofs.Holding.{Holds, bounded, add_asked}
use Rattle.mapping.specs.inner.Copies.{coef}
use Rattle.mapping.specs.inner.Steps.{growth, bend, RowRanges}
use Rattle.mapping.proofs.Differences.{next_value, next_growth, sum_le, growth_le, bend_le}
use Rattle.mapping.proofs.Held.{On}
use Rattle.mapping.proofs.table.go_on.Goals.{After-course_from-course, In-loop-s, Start}
use Rattle.mapping.proofs.table.go_on.Goals as goal

-- any code up to the last one, and the row
ranges : (st : Start) (s : ℕ) → s ≤ st.args.to → RowRanges st.args.scale.depth s st.args.row
ranges st s h = let g = st.requires.0 in record { shallow = st.args.scale.shallow; sample = le_trans h g.codes; coefficient = g.coefficient }

-- what it began with holds the sum over the row
begun : (c : After-course_from-course) → let a = c.args in let r = c.course_from-course.result in On a.scale.depth a.row a.from (to_z w64 (of_z w64 r.value)) (to_z w64 (of_z w64 r.growth)) (to_z w64 (of_z w64 r.bend))
begun c =
    let st : Start = search rules in
    let r = ranges st c.args.from c.requires.0.ordered in
    let e = c.course_from-course.ensures in
    record {
      value = (bounded (le_trans (le_of_eq (ap nat_abs e.0)) (sum_le r)) tt).is ∙ e.0;
      growth = (bounded (le_trans (le_of_eq (ap nat_abs e.1)) (growth_le r)) tt).is ∙ e.1;
      bend = (bounded (le_trans (le_of_eq (ap nat_abs e.2)) (bend_le r)) tt).is ∙ e.2;
    }

abbrev first : In-loop-s → After-course_from-course
first il = search rules

abbrev start : In-loop-s → Start
start il = search rules

-- and so do the words of each turn
now_on : (il : In-loop-s) → let a = il.args in let l = il.loop-s in On a.scale.depth a.row l.s (to_z w64 l.value-bits) (to_z w64 l.growth-bits) (to_z w64 (of_z w64 il.course_from-course.result.bend))
now_on il = (il.loop-s.invariant.1 il.args.row (begun (first il))).1

inside : (il : In-loop-s) → RowRanges il.args.scale.depth il.loop-s.s il.args.row
inside il = ranges (start il) il.loop-s.s (omega (arith, il.loop-s.invariant.0))

value_held : (il : In-loop-s) → Holds il.loop-s.value-bits (poly_sum il.args.scale.depth il.loop-s.s (coef il.args.row) 2) (2 ^ 61)
value_held il = record { is = (now_on il).value; le = sum_le (inside il) }

growth-held : (il : In-loop-s) → Holds il.loop-s.growth-bits (growth il.args.scale.depth il.args.row il.loop-s.s) (2 ^ 61)
growth-held il = record { is = (now_on il).growth; le = growth_le (inside il) }

bend-held : (il : In-loop-s) → Holds (of_z w64 il.course_from-course.result.bend) (bend il.args.scale.depth il.args.row) (2 ^ 61)
bend-held il = record { is = (now_on il).bend; le = bend_le (inside il) }

pub loop-s-preserved : goal.loop-s-preserved
loop-s-preserved c =
    let il : In-loop-s = search rules in
    let a = c.args in
    let l = c.loop-s in (
      omega arith,
      λ row on.
          let so_far = l.invariant.1 row on in
          let now = so_far.1 in (
            paint_more so_far.0 (omega (arith, c.loop-s-test, c.requires.0.codes, c.requires.1, pow_mono {j = 10} c.args.scale.shallow))
                (c.cut_at.ensures ∙ ap (cut_by a.scale.d) now.value ∙ is_cut a.scale.d c.args.scale.denominator (poly_sum a.scale.depth l.s (coef row) 2)),
            record {
              value = to_z-of_z (add_asked (value_held il) (growth-held il) tt) ∙ ap₂ ◌+ℤ◌ now.value now.growth ∙ next_value a.scale.depth row l.s;
              growth = to_z-of_z (add_asked (growth-held il) (bend-held il) tt) ∙ ap₂ ◌+ℤ◌ now.growth now.bend ∙ next_growth a.scale.depth row l.s;
              bend = now.bend;
            },
          ),
    )

pub returns : goal.returns
returns c =
    let f : After-course_from-course = search rules in
    paint_part c.args.to (c.loop-s.invariant.1 c.args.row (begun f)).0 (omega (arith, c.loop-s.invariant.0))

pub course_from-course-requires : goal.course_from-course-requires
course_from-course-requires c =
    let st : Start = search rules in
    ranges st c.args.from c.requires.0.ordered

pub loop-s-init : goal.loop-s-init
loop-s-init c =
    (c.requires.0.ordered, λ row on. (paint_none _ _ _, on))

pub overflow_add-value : goal.overflow_add-value
overflow_add-value c =
    let il : In-loop-s = search rules in
    add_asked (value_held il) (growth-held il) tt

pub overflow_add-growth : goal.overflow_add-growth
overflow_add-growth c =
    let il : In-loop-s = search rules in
    add_asked (growth-held il) (bend-held il) tt

pub bounds-table-s : goal.bounds-table-s
bounds-table-s c = omega (arith, c.loop-s-test, c.requires.0.codes, pow_mono {j = 10} c.args.scale.shallow)
