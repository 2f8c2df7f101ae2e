-- The calls of a night leave what the jobs of the theorem leave. Assumes nothing.
use mathlib.Core.Path.{◌≡◌, refl, sym, ap, ap₂, subst, ◌∙◌}
use mathlib.Core.Bool.{true, false, true≢false}
use mathlib.Core.List.{List, [], ◌∷◌}
use Prim.Native.Nat.{ℕ, zero, suc}
use lib.Dec.{eqb}
use lib.ListN.{length}
use Rattle.refusals.specs.Refusals.{Outcome, granted, outcome}
use Rattle.plan.specs.declared.Plan.{Plan}
use Rattle.jobs.specs.Jobs.{Job, job_answer, opening_accepted, opening_answer, opening_refusal}
use Rattle.calls.specs.Calls.{Memory, memory, opening_plan, opening_ticket, marks_before, marks_opened}
use Rattle.calls.specs.Calls.{AnyJobCall, plain, lent, any_done}
use Rattle.night.specs.Sequence.{step, run, opened}
use Rattle.night.specs.Night.{Leaves}
use Rattle.night.specs.Chain.{Calls, none, more, answers, AnyChainOfCalls}
use Rattle.night.proofs.Night.{standby_night}

-- a call of either kind ends as its promise says
kept : (c : AnyJobCall) → (let d = any_done c in (d.said ≡ job_answer d.given d.before.output d.before.marks) × (d.afterwards ≡ step d.given d.before))
kept (plain c) = (c.kept.0, ap₂ memory c.kept.1.0 c.kept.1.1)
kept (lent c) = (c.kept.0, ap₂ memory c.kept.1.0 c.kept.1.1)

as_run : {m n : Memory} {js : List Job} {os : List Outcome} → Calls m js os n → (n ≡ run js m) × (os ≡ answers js m)
unfolding run answers
as_run none = (refl, refl)
as_run (more {js} c cs) =
    let after = kept c in
    ((as_run cs).0 ∙ ap (run js) after.1, ap₂ (λ (x : Outcome) (xs : List Outcome). x ∷ xs) after.0 ((as_run cs).1 ∙ ap (answers js) after.1))

-- an opening that is not refused was accepted, and hands back the ticket that it was given
opened_as : (p : Plan) (ticket n : ℕ) → (opening_answer p ticket n).refused ≡ false → (opening_accepted p n ≡ true) × (opening_answer p ticket n ≡ granted (ticket ∷ []))
unfolding opening_answer opening_accepted outcome
opened_as p ticket n h = go (opening_refusal p n) h
  where
    go : (k : ℕ) → (outcome k (ticket ∷ [])).refused ≡ false → (eqb k 0 ≡ true) × (outcome k (ticket ∷ []) ≡ granted (ticket ∷ []))
    go zero q = (refl, refl)
    go (suc k) q = absurd (true≢false q)

as_said : {o p : Outcome} {left base : ℕ} → o ≡ p → Leaves o left base → Leaves p left base
as_said {left = left} {base = base} e l = subst (λ (x : Outcome). Leaves x left base) e l

pub any_chain_of_calls : AnyChainOfCalls
any_chain_of_calls o opens base enhancement output js os m calls ks =
    let p = opening_plan o in
    let marks = marks_before o in
    let start : memory output (marks_opened o) ≡ opened p output marks = ap (memory output) o.kept.1 in
    let memory_is : m ≡ run js (opened p output marks) = (as_run calls).0 ∙ ap (run js) start in
    let was_asked = opened_as p (opening_ticket o) (length marks) (ap (λ (x : Outcome). x.refused) (sym o.kept.0) ∙ opens) in
    let finished = standby_night p base enhancement output marks js was_asked.0 ks in (
      o.kept.0 ∙ was_asked.1,
      record {
        memory_is = memory_is;
        answers_are = (as_run calls).1 ∙ ap (answers js) start;
        finished = finished;
        next = λ c e k h.
            as_said (sym ((kept c).0 ∙ ap (λ (x : Memory). job_answer (any_done c).given x.output x.marks) (e ∙ memory_is))) (finished.next (any_done c).given k h);
      },
    )
