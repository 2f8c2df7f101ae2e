-- What demand 3 said before R-6 follows from what it says now. Assumes nothing.
use mathlib.Core.Path.{◌≡◌, refl, sym, ap, ap₂, ◌∙◌}
use mathlib.Core.Bool.{Bool, true, false, not, ◌&&◌, ◌||◌, cond, true≢false}
use mathlib.Core.List.{List, [], ◌∷◌}
use Prim.Native.Nat.{ℕ}
use lib.Dec.{eqb}
use lib.ListN.{length}
use borrow.Author.Tests.{eqb-true}
use Rattle.refusals.proofs.Laws.{neither}
use Rattle.picture.specs.Picture.{pair_at}
use Rattle.plan.specs.declared.Plan.{Plan}
use Rattle.plan.proofs.Truths.{both}
use Rattle.rules.specs.Rules.{by_plan, extent, names, used}
use Rattle.compose.specs.Composing.{composed_at}
use Rattle.jobs.specs.Jobs.{Job, accepted}
use Rattle.jobs.proofs.Samples.{unused_sample}
use Rattle.night.specs.Sequence.{some_accepted, named, brings, enhanced, full_after, base_only_after}
use Rattle.night.specs.Night.{Asked, All, none, more, StandbyNight}
use Rattle.night.specs.InTime.{KeepsAll, AskedInTime, NightInTime}
use Rattle.night.proofs.Night.{asked_as, standby_night}

module _ (p : Plan) (base enhancement : List ℕ) (a b : ℕ) where
  -- the premises are those of before
  asked_now : (j : Job) → AskedInTime p base enhancement a b j → Asked p base enhancement a b j
  unfolding used
  asked_now j (k, t) = (
    record {
      same_plan = k.same_plan;
      same_base = k.same_base;
      same_enhancement = λ h on. k.same_enhancement h (ap (λ (q : Plan). q.header.disabled) (sym (k.same_plan h)) ∙ eqb-true _ 0 (both (eqb j.work.plan.header.disabled 0) _ on).0);
    },
    t,
  )

  -- a job that brings none says that there is none
  unused : (j : Job) → KeepsAll p base enhancement a b j → accepted j a b ≡ true → brings j ≡ false → used p.header (length enhancement) ≡ false
  unfolding used
  unused j k h off = go (eqb p.header.disabled 0) refl
    where
      go : (u : Bool) → eqb p.header.disabled 0 ≡ u → used p.header (length enhancement) ≡ false
      go true e = ap₂ (λ (q : Plan) (l : List ℕ). used q.header (length l)) (sym (k.same_plan h)) (sym (k.same_enhancement h (eqb-true _ 0 e))) ∙ off
      go false e = rw e

  -- where a row pair was named and no job that named it brought the enhancement, there is none
  none_used : (js : List Job) (k : ℕ) → All (AskedInTime p base enhancement a b) js → named a b js k ≡ true → enhanced a b js k ≡ false → used p.header (length enhancement) ≡ false
  unfolding some_accepted
  none_used [] k none n e = absurd (true≢false (sym n))
  none_used (j ∷ js) k (more asked ks) n e =
      let rest = neither (accepted j a b && (names j.work k && brings j)) _ e in
      go (accepted j a b) refl (names j.work k) n rest.0 (λ n. none_used js k ks n rest.1)
    where
      go : (u : Bool) → accepted j a b ≡ u → (v : Bool) → ((u && v) || named a b js k) ≡ true → (u && (v && brings j)) ≡ false → (named a b js k ≡ true → used p.header (length enhancement) ≡ false) → used p.header (length enhancement) ≡ false
      go true h true n off later = unused j asked.0 h off
      go true h false n off later = later n
      go false h v n off later = later n

  -- a row pair that was named is full, or there is no enhancement and it is base only
  module _ (js : List Job) (i k : ℕ) (n : named a b js k ≡ true) (asked : All (AskedInTime p base enhancement a b) js) where
    by_kind : {v : ℕ} → (full_after p a b js k ≡ true → v ≡ composed_at p base enhancement i) → (base_only_after p a b js k ≡ true → v ≡ composed_at p base [] i) → v ≡ composed_at p base enhancement i
    unfolding full_after base_only_after
    by_kind {v} whole only = go (full_after p a b js k) refl
      where
        unflagged : (u : Bool) → cond u (named a b js k) (enhanced a b js k) ≡ false → enhanced a b js k ≡ false
        unflagged true e = absurd (true≢false (sym n ∙ e))
        unflagged false e = e

        go : (w : Bool) → full_after p a b js k ≡ w → v ≡ composed_at p base enhancement i
        go true e = whole e
        go false e =
            only (ap₂ (λ (x y : Bool). x && not y) n e)
            ∙ sym (unused_sample by_plan p base enhancement i (none_used js k asked n (unflagged (eqb p.header.disabled 1) e)))

pub in_time : StandbyNight → NightInTime
in_time night p base enhancement output marks js fits asked =
    let a = length output in
    let b = length marks in
    let now = night p base enhancement output marks js fits (asked_as (asked_now p base enhancement a b) asked) in
    record {
      composed = λ i l n. by_kind p base enhancement a b js i (pair_at (extent p.header) i) n asked (now.full i l) (now.base_only i l);
      others = now.others;
      size = now.size;
      next = λ j k h. let o = now.next j (asked_now p base enhancement a b j k) h in record { is_done = o.is_done; rows = o.rows; all = o.all };
      sent_again = now.sent_again;
    }

pub night_in_time : NightInTime
night_in_time = in_time standby_night
