-- A part that is summed, and then lowered where it lies in the output. Assumes nothing.
use mathlib.Core.Path.{◌≡◌, ap, ap₂, ◌∙◌}
use mathlib.Core.Bool.{Bool, cond}
use mathlib.Core.List.{List}
use Prim.Native.Nat.{ℕ, ◌+◌, ◌-◌, ◌<◌, ◌≤◌, min}
use native.Mathlib.Omega.{arith}
use lib.ListN.{length}
use borrow.Rule.Slice.PartMut.{put_mid}
use Rattle.runs.specs.Runs.{painted}
use Rattle.runs.specs.inner.Loops.{at, below}
use Rattle.runs.proofs.Between.{in_between}
use Rattle.runs.proofs.Painting.{PaintedFrom, length-painted, at-painted}
use Rattle.runs.proofs.Parts.{part, length_part, at_part, painted-part}
use Rattle.spans.specs.inner.Spans.{entry}
use Rattle.sums.specs.declared.Cut.{Cut}
use Rattle.sums.specs.inner.Sums.{cut_of, summed, added_up, lowered_at}
use Rattle.sums.proofs.Cutting.{cut_in_32}
use Rattle.rows.specs.inner.Rows.{part_places}

-- it is painted with what is cut out of the sums
module _ (mapped raised : List ℕ) (cut : Cut) (base enhancement l : List ℕ) (a b : ℕ) (forward : a ≤ b) (short : b ≤ a + part_places) (in_base : b ≤ length base) (in_enhancement : b ≤ length enhancement) (in_output : b ≤ length l) where
  abbrev few : ℕ
  few = min (length (part a b base)) (length (part a b enhancement))

  as_long : few ≡ b - a
  as_long = omega (arith, length_part a b base in_base, length_part a b enhancement in_enhancement)

  module _ (sums before : List ℕ) (long : length before ≡ part_places) (sum : sums ≡ painted (below few) (summed mapped raised (part a b base) (part a b enhancement)) before) where
    sums_long : length sums ≡ part_places
    sums_long = ap length sum ∙ length-painted (below few) _ before ∙ long

    sum-at : (j : ℕ) → j < b - a → at sums j ≡ summed mapped raised (part a b base) (part a b enhancement) j
    sum-at j h =
        ap (λ (s : List ℕ). at s j) sum
        ∙ at-painted (below few) _ before j 0 (omega arith)
        ∙ ap (λ (u : Bool). cond u (summed mapped raised (part a b base) (part a b enhancement) j) (at before j)) (in_between 0 few j (omega arith) (omega (arith, as_long)))

    cut_at : (j : ℕ) → j < b - a → lowered_at cut sums j ≡ added_up mapped raised cut base enhancement (a + j)
    unfolding lowered_at added_up summed
    cut_at j h =
        ap (cut_of cut) (sum-at j h)
        ∙ cut_in_32 cut (entry mapped (at (part a b base) j) + entry raised (at (part a b enhancement) j))
        ∙ ap₂ (λ (s e : ℕ). cut_of cut (entry mapped s + entry raised e)) (at_part a b base j h) (at_part a b enhancement j h)

    pub in_two_passes : (mid : List ℕ) → mid ≡ painted (below (length sums)) (lowered_at cut sums) (part a b l) → PaintedFrom a (added_up mapped raised cut base enhancement) l b (put_mid a (b - a) l mid)
    in_two_passes mid e =
        let back = ap (put_mid a (b - a) l) e ∙ painted-part a b l forward in_output (below (length sums)) (lowered_at cut sums) (added_up mapped raised cut base enhancement) (λ j h. in_between 0 (length sums) j (omega arith) (omega (arith, sums_long))) cut_at in
        record { from = forward; is = back; long = ap length back ∙ length-painted _ _ l }
