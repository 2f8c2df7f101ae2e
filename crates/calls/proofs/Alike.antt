-- Both job calls give the same where the table is the plan's. Assumes nothing.
use mathlib.Core.Path.{◌≡◌, refl, sym, ap, ap₂, ◌∙◌}
use mathlib.Core.Bool.{true, false, true≢false, cond}
use mathlib.Core.List.{List, []}
use Prim.Native.Nat.{ℕ, zero, suc}
use lib.Dec.{eqb}
use lib.ListN.{length}
use Rattle.refusals.specs.Refusals.{Outcome, outcome}
use Rattle.plan.specs.declared.Plan.{Plan}
use Rattle.plan.specs.Rule7.{fitting}
use Rattle.plan.specs.Tables.{has_mmr}
use Rattle.filling.specs.Filling.{filling_refusal, filled, table_after, filling_answer}
use Rattle.filling.proofs.Meaning.{Accepted, accepted}
use Rattle.jobs.specs.Jobs.{Job, lend, job_answer, output_after, marks_after}
use Rattle.table_jobs.proofs.Same.{same_output, same_marks, same_answer}
use Rattle.calls.specs.Calls.{Memory, memory, filling_plan, done, table_done}
use Rattle.calls.specs.Alike.{BothCallsAlike}

-- a filling that is not refused was accepted, and left the plan's table
was_filled : (p : Plan) (t : List ℕ) → (filling_answer p (length t)).refused ≡ false → Accepted p (length t) × (table_after p t ≡ filled p)
unfolding filling_answer table_after outcome
was_filled p t e = go (filling_refusal p (length t)) refl e
  where
    go : (n : ℕ) → filling_refusal p (length t) ≡ n → (outcome n []).refused ≡ false → Accepted p (length t) × (cond (eqb n 0) (filled p) t ≡ filled p)
    go zero q e = (accepted p (length t) q, refl)
    go (suc n) q e = absurd (true≢false e)

pub both_calls_alike : BothCallsAlike
both_calls_alike f ok c t same_plan same-job same_memory =
    let p = filling_plan f in
    let j = (done c).given in
    let q = j.work.plan in
    let m = (done c).before in
    let w = was_filled p f.handed.1.0.now (ap (λ (o : Outcome). o.refused) (sym f.kept.0) ∙ ok) in
    let fits : fitting q ≡ true = ap fitting same_plan ∙ w.0.fits in
    let polynomials : has_mmr q ≡ false = ap has_mmr same_plan ∙ w.0.polynomials in
    let given : (table_done t).given ≡ lend (filled q) j = same-job ∙ ap (λ (l : List ℕ). lend l j) (f.kept.1 ∙ w.1 ∙ ap filled (sym same_plan)) in
    record {
      answer =
          t.kept.0
          ∙ ap₂ (λ (i : Job) (n : Memory). job_answer i n.output n.marks) given same_memory
          ∙ same_answer q j.open_ticket j.ticket j.work.first j.work.count j.work.base j.work.enhancement fits polynomials m.output m.marks
          ∙ sym c.kept.0;
      memory =
          ap₂ memory t.kept.1.0 t.kept.1.1
          ∙ ap₂ (λ (i : Job) (n : Memory). memory (output_after i n.output n.marks) (marks_after i n.output n.marks)) given same_memory
          ∙ ap₂ memory
          (same_output q j.open_ticket j.ticket j.work.first j.work.count j.work.base j.work.enhancement fits polynomials m.output m.marks)
          (same_marks q j.open_ticket j.ticket j.work.first j.work.count j.work.base j.work.enhancement fits polynomials m.output m.marks)
          ∙ sym (ap₂ memory c.kept.1.0 c.kept.1.1);
    }
