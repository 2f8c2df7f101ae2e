use mathlib.Core.Path.{◌≡◌, ap₂, ◌∙◌}
use mathlib.Core.List.{List}
use Prim.Native.Nat.{ℕ, ◌+◌, ◌%◌, ◌^◌}
use native.Mathlib.Omega.{arith}
use Rattle.runs.specs.inner.Loops.{at}
use Rattle.runs.proofs.Painting.{paint_none, paint_four, paint_part}
use Rattle.spans.proofs.Fours.{given-at}
use Rattle.sums.specs.inner.Sums.{summed}
use Rattle.sums.proofs.Addends.sum_four.Goals as goal

-- `sums::Addends::sum_four` meets its contract. Assumes nothing.
-- a sum by the same places of the tables
same_sum : (mapped raised : List ℕ) {r s e t f : ℕ} → r ≡ (at mapped s + at raised e) % 2 ^ 32 → s ≡ t → e ≡ f → r ≡ (at mapped t + at raised f) % 2 ^ 32
same_sum mapped raised h p q = h ∙ ap₂ (λ (s e : ℕ). (at mapped s + at raised e) % 2 ^ 32) p q

pub returns : goal.returns
unfolding summed
returns c =
    let a = c.args in
    let m = a.self.mapped.now in
    let r = a.self.raised.now in
    let b = given-at a.i a.base.now c.requires.0 c.four-w.ensures.gives in
    let e = given-at a.i a.enhancement.now c.requires.1 c.four-x.ensures.gives in
    paint_part (a.i + 4)
    (paint_four (paint_none a.i (summed m r a.base.now a.enhancement.now) a.sums.now) (omega arith)
    (same_sum m r c.sum_of-a.ensures b.first e.first)
    (same_sum m r c.sum_of-b.ensures b.second e.second)
    (same_sum m r c.sum_of-c.ensures b.third e.third)
    (same_sum m r c.sum_of-d.ensures b.fourth e.fourth))
    (omega arith)
