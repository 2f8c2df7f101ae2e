-- `residual::fill_residuals` meets its contract: the codes below the offset, that at it and those above it. Assumes nothing.
use mathlib.Core.Path.{◌≡◌, refl, sym, ◌∙◌}
use mathlib.Core.Bool.{true, ◌&&◌}
use mathlib.Core.List.{List}
use Prim.Native.Nat.{ℕ, ◌+◌, ◌^◌, ◌<◌, ◌≤◌, zero-le}
use native.Mathlib.Nat.{le_refl}
use native.Mathlib.Omega.{arith}
use lib.IntN.{pos}
use lib.ListN.{length, set}
use lib.Pow.{pow_mono}
use Rattle.runs.specs.Runs.{painted, between}
use Rattle.runs.proofs.Painting.{PaintedFrom, paint_none, paint_more}
use Rattle.spans.proofs.Fours.{paint_turn}
use Rattle.plan.specs.declared.Header.{Header}
use Rattle.plan.specs.declared.Nlq.{Nlq}
use Rattle.plan.specs.Ranges.{header_fits}
use Rattle.plan.specs.Rule7.{nlq_fits}
use Rattle.plan.specs.inner.Facts.{HeaderFacts, NlqFacts}
use Rattle.plan.proofs.Facts.{header-kept, nlq_facts}
use Rattle.plan.proofs.Truths.{both}
use Rattle.residual.specs.inner.Raising.{raised}
use Rattle.residual.specs.inner.Steps.{NlqRanges, raised_code}
use Rattle.residual.proofs.Courses.{raised_none, below_offset, above_offset}
use Rattle.residual.proofs.fill_residuals.Goals as goal

-- what the test of the quantization gives
module _ (h : Header) (q : Nlq) (t : (header_fits h && nlq_fits h q) ≡ true) where
  header : HeaderFacts h
  header = header-kept h (both (header_fits h) _ t).0

  numbers : NlqFacts h q
  numbers = nlq_facts h q (both (header_fits h) _ t).1

  shallow : (h.el + 8 ≤ 10) × (h.hdr + 8 ≤ 12)
  shallow = (omega (arith, header.base_depth, header.same_depth), omega (arith, header.out_depth))

  ranges : NlqRanges h.d q
  ranges =
      record {
        maximum = numbers.maximum;
        slope = numbers.slope;
        threshold = numbers.threshold;
      }

  -- there are no more codes than places, and the offset is one
  few : (codes : ℕ) → codes ≡ 2 ^ (h.el + 8) → (codes ≤ 1024) × (q.offset < codes)
  few codes e = (omega (arith, e, pow_mono {i = h.el + 8} {j = 10} shallow.0), omega (arith, e, numbers.offset))

  abbrev code : ℕ → ℕ
  code = raised_code (h.hdr + 8) (h.el + 8) h.d q

  -- the codes below the offset, and that at it
  up_to_offset : (codes : ℕ) → codes ≡ 2 ^ (h.el + 8) → (entry below : List ℕ) (x : ℕ) → length entry ≡ 1024 → below ≡ painted (between 0 q.offset) code entry → x ≡ raised (h.hdr + 8) (pos 0) → PaintedFrom 0 code entry (q.offset + 1) (set below q.offset x)
  up_to_offset codes e entry below x long is at =
      let f = few codes e in
      let under = paint_turn q.offset (paint_none 0 code entry) zero-le refl is in
      paint_more under (omega arith) (at ∙ raised_none (h.el + 8) h.d q (h.hdr + 8))

pub returns-then-not-quantizes : goal.returns-then-not-quantizes
returns-then-not-quantizes c = rw (sym c.quantizes.ensures ∙ c.if-not-quantizes.true)

pub invariant_of-depths : goal.invariant_of-depths
invariant_of-depths c =
    let t = sym c.quantizes.ensures ∙ c.if-not-quantizes.false in
    let g = header _ _ t in
    record { shallow = (shallow _ _ t).0; fraction = g.shallow; deep = g.deep; out_depth = (shallow _ _ t).1 }

pub power-codes-requires : goal.power-codes-requires
power-codes-requires c =
    let s = shallow _ _ (sym c.quantizes.ensures ∙ c.if-not-quantizes.false) in
    omega arith

pub overflow_cast-codes : goal.overflow_cast-codes
overflow_cast-codes c =
    let f = few _ _ (sym c.quantizes.ensures ∙ c.if-not-quantizes.false) _ c.power-codes.ensures in
    omega arith

pub go_on-requires : goal.go_on-requires
go_on-requires c =
    let t = sym c.quantizes.ensures ∙ c.if-not-quantizes.false in
    let f = few _ _ t _ c.power-codes.ensures in (
      record {
        ranges = ranges _ _ t;
        ordered = zero-le;
        codes = omega arith;
        offset = omega arith;
        unit = le_refl 1;
        side = λ e x y. below_offset e c.args.q.offset y;
      },
      c.requires,
    )

pub raise-requires : goal.raise-requires
raise-requires c = ((shallow _ _ (sym c.quantizes.ensures ∙ c.if-not-quantizes.false)).1, zero-le)

pub offset_bounds-table-o : goal.offset_bounds-table-o
offset_bounds-table-o c =
    let f = few _ _ (sym c.quantizes.ensures ∙ c.if-not-quantizes.false) _ c.power-codes.ensures in
    omega arith

pub bounds-table-o : goal.bounds-table-o
bounds-table-o c =
    let f = few _ _ (sym c.quantizes.ensures ∙ c.if-not-quantizes.false) _ c.power-codes.ensures in
    omega arith

pub overflow_add-o : goal.overflow_add-o
overflow_add-o c =
    let f = few _ _ (sym c.quantizes.ensures ∙ c.if-not-quantizes.false) _ c.power-codes.ensures in
    omega arith

pub go_on-requires-2 : goal.go_on-requires-2
go_on-requires-2 c =
    let t = sym c.quantizes.ensures ∙ c.if-not-quantizes.false in
    let f = few _ _ t _ c.power-codes.ensures in (
      record {
        ranges = ranges _ _ t;
        ordered = omega arith;
        codes = omega arith;
        offset = omega arith;
        unit = le_refl 1;
        side = λ e x y. above_offset e c.args.q.offset (omega (arith, x));
      },
      (up_to_offset _ _ t _ c.power-codes.ensures _ _ _ c.requires c.go_on.ensures c.raise.ensures).long ∙ c.requires,
    )

pub returns : goal.returns
returns c =
    let t = sym c.quantizes.ensures ∙ c.if-not-quantizes.false in
    let f = few _ _ t _ c.power-codes.ensures in
    let u = up_to_offset _ _ t _ c.power-codes.ensures _ _ _ c.requires c.go_on.ensures c.raise.ensures in
    rw t (paint_turn _ u (omega arith) (sym c.power-codes.ensures) c.go_on-2.ensures).is
