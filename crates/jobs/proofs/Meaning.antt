-- The ways that a job can go, by the definitions: from its refusal to its answer, its output and its marks. Assumes nothing.
use mathlib.Core.Path.{◌≡◌, refl, sym, ap, ap₂, ◌∙◌}
use mathlib.Core.Bool.{Bool, true, false, not, cond}
use mathlib.Core.List.{List, [], ◌∷◌}
use Prim.Native.Nat.{ℕ, ◌+◌}
use lib.ListN.{length}
use borrow.Author.Tests.{eq-eqb, ne_eqb}
use Rattle.runs.specs.Runs.{painted, tally}
use Rattle.std.specs.Prelude.{Result, Ok, Err}
use Rattle.refusals.specs.declared.Refusal.{Refusal}
use Rattle.refusals.specs.declared.Refusal.TheVariants.{Plan, Ticket, Run}
use Rattle.refusals.specs.Refusals.{Outcome, granted, denied, number_of, number_in}
use Rattle.refusals.proofs.Laws.{outcome-granted, outcome-denied, outcome-number, number_of-some}
use Rattle.picture.specs.Picture.{pair_at}
use Rattle.plan.specs.Rule7.{fitting}
use Rattle.rules.specs.Rules.{Given, extent, names, rules, refusal}
use Rattle.compose.specs.Composing as composing
use Rattle.jobs.specs.Jobs.{Job, job_refusal, accepted, sample, is_full, output_after, marks_after, job_answer}
use Rattle.marks.specs.Marks.{waits, base_only}
use Rattle.marks.specs.inner.Marks.{done, composed_pairs}

-- the number that composing says is its refusal's
pub said_number : (g : Given) (n : ℕ) (done : Result (Unit {0}) Refusal) → composing.says done ≡ composing.answer g n → number_in done ≡ refusal g n
said_number g n (Ok u) said = ap (λ (o : Outcome). o.number) said ∙ outcome-number _ _
said_number g n (Err r) said = ap (λ (o : Outcome). o.number) said ∙ outcome-number _ _

-- an answer, an output and marks are those that the definitions give
abbrev pub Ends : Job → List ℕ → List ℕ → Outcome → List ℕ → List ℕ → Type 0
Ends j output marks o output' marks' = (o ≡ job_answer j output marks) × ((output' ≡ output_after j output marks) × (marks' ≡ marks_after j output marks))

module _ (j : Job) (output marks : List ℕ) where
  abbrev number : ℕ
  number = job_refusal j (length output) (length marks)

  refused : (r : Refusal) → number ≡ number_of r → Ends j output marks (denied (number_of r)) output marks
  unfolding accepted output_after marks_after job_answer
  refused r e = let n = number_of-some r in (outcome-denied _ _ _ e n, (rw (e, ne_eqb _ 0 n), rw (e, ne_eqb _ 0 n)))

  -- the marks of an accepted job
  abbrev marking : List ℕ
  marking = painted (composing.composes j.work marks) (done (is_full j)) marks

  finished : number ≡ 0 → Ends j output marks (granted (tally waits marking ∷ tally base_only marking ∷ [])) (painted (λ i. composing.composes j.work marks (pair_at (extent j.work.plan.header) i)) (sample j) output) marking
  unfolding accepted output_after marks_after job_answer
  finished e = (rw e (outcome-granted 0 _ refl), (rw e, rw e))

  -- a rule after 7 is met
  seven_first : (fits : Bool) (met r : Refusal) → number ≡ cond (not fits) 7 (number_of met) → r ≡ cond fits met Plan → Ends j output marks (denied (number_of r)) output marks
  seven_first true met r e h = refused r (e ∙ ap number_of (sym h))
  seven_first false met r e h = refused r (e ∙ ap number_of (sym h))

  pub ticket_refused : (r : Refusal) → (j.ticket ≡ j.open_ticket → ⊥) → r ≡ cond (fitting j.work.plan) Ticket Plan → Ends j output marks (denied (number_of r)) output marks
  unfolding job_refusal rules
  ticket_refused r n = seven_first (fitting j.work.plan) Ticket r (rw (ne_eqb j.ticket j.open_ticket n))

  pub marks_refused : (r : Refusal) → j.ticket ≡ j.open_ticket → (length marks ≡ j.work.plan.header.pairs → ⊥) → r ≡ cond (fitting j.work.plan) Run Plan → Ends j output marks (denied (number_of r)) output marks
  unfolding job_refusal rules
  marks_refused r t n = seven_first (fitting j.work.plan) Run r (rw (eq-eqb j.ticket j.open_ticket t, ne_eqb (length marks) j.work.plan.header.pairs n))

  -- ---- with the right ticket and marks a job goes as composing does
  module _ (t : j.ticket ≡ j.open_ticket) (m : length marks ≡ j.work.plan.header.pairs) where
    by_composing : number ≡ refusal j.work (length output)
    unfolding job_refusal refusal rules
    by_composing = rw (eq-eqb j.ticket j.open_ticket t, eq-eqb (length marks) j.work.plan.header.pairs m)

    pub composing_refused : (r : Refusal) (after : List ℕ) → composing.says (Err r) ≡ composing.answer j.work (length output) → after ≡ composing.output_after j.work marks output → Ends j output marks (denied (number_of r)) after marks
    unfolding composing.output_after
    composing_refused r after said h =
        let e = said_number j.work (length output) (Err r) said in
        let same : after ≡ output = h ∙ rw (← e, ne_eqb _ 0 (number_of-some r)) in rw same (refused r (by_composing ∙ sym e))

    pub composing_done : (whole : Bool) (left base : ℕ) (after marked : List ℕ) → refusal j.work (length output) ≡ 0 → whole ≡ is_full j → after ≡ composing.output_after j.work marks output → marked ≡ painted (composed_pairs whole j.work.first (j.work.first + j.work.count) marks) (done whole) marks → left ≡ tally waits marked → base ≡ tally base_only marked → Ends j output marks (granted (left ∷ base ∷ [])) after marked
    unfolding composing.output_after composing.composes names composed_pairs
    composing_done whole left base after marked e w h p q r =
        let f = finished (by_composing ∙ e) in
        let is : marked ≡ marking = p ∙ ap (λ (u : Bool). painted (composed_pairs u j.work.first (j.work.first + j.work.count) marks) (done u) marks) w in
        (ap₂ (λ (n m : ℕ). granted (n ∷ m ∷ [])) (q ∙ ap (tally waits) is) (r ∙ ap (tally base_only) is) ∙ f.0, (h ∙ rw e f.1.0, is ∙ f.1.1))
