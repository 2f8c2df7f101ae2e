-- Base then full, and full then base: both end full. Assumes nothing.
use mathlib.Core.Path.{◌≡◌, ap, ap₂, ◌∙◌}
use mathlib.Core.Bool.{Bool, true, cond}
use Prim.Native.Nat.{ℕ, ◌<◌}
use native.Mathlib.Omega.{arith}
use lib.ListN.{length, get_or}
use Rattle.picture.specs.Picture.{pair_at}
use Rattle.plan.specs.declared.Plan.{Plan}
use Rattle.rules.specs.Rules.{extent, names}
use Rattle.marks.specs.Marks.{full, full_at}
use Rattle.compose.specs.Composing.{composes}
use Rattle.jobs.specs.Jobs.{Job, accepted, sample, is_full}
use Rattle.jobs.proofs.Samples.{sample_by, mark_by, every_sample_holds}
use Rattle.jobs.proofs.Accepting.{named-marked}
use Rattle.calls.specs.Calls.{Memory}
use Rattle.night.specs.Sequence.{step, run}
use Rattle.night.specs.EitherOrder.{EitherOrder}
use Rattle.night.proofs.Sequence.{output_long, marks_long}

-- a full job on any memory
module _ (j : Job) (m : Memory) (h : accepted j (length m.output) (length m.marks) ≡ true) (w : is_full j ≡ true) where
  composed : (k : ℕ) → names j.work k ≡ true → composes j.work m.marks k ≡ true
  unfolding composes
  composed k n = rw (n, w)

  pub sample-full : (i : ℕ) → i < length m.output → names j.work (pair_at (extent j.work.plan.header) i) ≡ true → get_or (step j m).output i 0 ≡ sample j i
  sample-full i l n = sample_by j m.output m.marks true true h i l (composed _ n)

  pub mark_full : (k : ℕ) → k < length m.marks → names j.work k ≡ true → get_or (step j m).marks k 0 ≡ 1
  mark_full k l n = mark_by j m.output m.marks true true h k l (composed k n) ∙ ap (λ (u : Bool). cond u 1 2) w

pub either_order : EitherOrder
unfolding run full_at full
either_order whole base m g k n n' = (
  record {
    samples = λ i l e. sample-full whole then_base again g.is_whole i (omega (arith, output_long base m)) (ap (names whole.work) e ∙ n);
    mark = λ l. mark_full whole then_base again g.is_whole k (omega (arith, marks_long base m)) n;
  },
  record {
    samples = λ i l e.
        every_sample_holds.kept_samples base then_whole.output then_whole.marks i (omega (arith, output_long whole m)) g.is_base (ap (full_at then_whole.marks) (there i ∙ e) ∙ is_marked)
        ∙ sample-full whole m g.whole_accepted g.is_whole i l (ap (names whole.work) e ∙ n);
    mark = λ l. every_sample_holds.kept_marks base then_whole.output then_whole.marks k (omega (arith, marks_long whole m)) g.is_base is_marked ∙ mark_full whole m g.whole_accepted g.is_whole k l n;
  },
)
  where
    then_base : Memory
    then_base = step base m

    then_whole : Memory
    then_whole = step whole m

    again : accepted whole (length then_base.output) (length then_base.marks) ≡ true
    again = ap₂ (accepted whole) (output_long base m) (marks_long base m) ∙ g.whole_accepted

    is_marked : full_at then_whole.marks k ≡ true
    is_marked = ap full (mark_full whole m g.whole_accepted g.is_whole k (named-marked whole _ _ k g.whole_accepted n) n)

    -- a row pair of the one is that of the other
    there : (i : ℕ) → pair_at (extent base.work.plan.header) i ≡ pair_at (extent whole.work.plan.header) i
    there i = ap (λ (p : Plan). pair_at (extent p.header) i) g.same_plan
