-- Demand 3 holds of every sequence of jobs after an accepted opening. Assumes nothing.
use mathlib.Core.Path.{◌≡◌, refl, sym, ap, ap₂, ◌∙◌}
use mathlib.Core.Bool.{Bool, true, false, not, ◌&&◌, cond, and-true, and-false, true≢false}
use mathlib.Core.List.{List, [], ◌∷◌, ◌++◌}
use mathlib.Core.Logic.{⊎_elim}
use Prim.Native.Nat.{ℕ, ◌<◌}
use native.Mathlib.Omega.{arith}
use lib.Dec.{eqb}
use lib.ListN.{length, get_or, get_or-eq_default}
use lib.Seq.{ext_get_or}
use borrow.Author.Tests.{eqb-true}
use Rattle.runs.specs.Runs.{painted, tally}
use Rattle.std.proofs.lemmas.Bool.{cases_lt}
use Rattle.runs.proofs.Painting.{length-painted, at-painted}
use Rattle.refusals.specs.Refusals.{rule, Outcome, granted}
use Rattle.refusals.proofs.Laws.{none_met, not_off, outcome-granted}
use Rattle.picture.specs.Picture.{pair_at}
use Rattle.plan.specs.declared.Plan.{Plan}
use Rattle.plan.specs.Rule7.{fitting}
use Rattle.plan.proofs.Truths.{both}
use Rattle.rules.specs.Rules.{Source, by_plan, by_table, extent}
use Rattle.compose.specs.Composing.{composed_at}
use Rattle.marks.specs.Marks.{waits, base_only, full, full_at}
use Rattle.marks.specs.inner.Marks.{every_pair, waiting}
use Rattle.jobs.specs.Jobs.{Job, job_refusal, accepted, job_answer, rows_left, rows_base_only, complete, opening_refusal, opening_accepted, opening_marks}
use Rattle.calls.specs.Calls.{Memory, memory}
use Rattle.night.specs.Sequence.{step, run, opened, named, enhanced, full_after, base_only_after, rows_left_after, rows_base_only_after}
use Rattle.night.specs.Night.{Asked, AskedPlain, All, none, more, Sent, here, later, Leaves, StaysFinished, StandbyNight, PlainNight}
use Rattle.night.proofs.Counting.{counted}
use Rattle.night.proofs.OneRowPair.{after}
use Rattle.night.proofs.Accepted.{sent_twice, not_named}
use Rattle.night.proofs.Sequence.{marks_run, samples_run, output_run, marks_run_long}

-- an accepted opening found a mark for each row pair, and cleared them all
opening_marked : (p : Plan) (n : ℕ) → opening_accepted p n ≡ true → n ≡ p.header.pairs
unfolding opening_accepted opening_refusal
opening_marked p n h =
    let u = none_met (rule 7 (not (fitting p)) ∷ rule 9 (not (eqb n p.header.pairs)) ∷ []) refl (eqb-true _ 0 h) in
    eqb-true n _ (not_off _ u.1.0)

cleared : (p : Plan) (marks : List ℕ) → opening_accepted p (length marks) ≡ true → opening_marks p marks ≡ painted every_pair waiting marks
unfolding opening_marks
cleared p marks h = rw h

-- ---- jobs that are as asked
module _ {P : Job → Type 0} where
  asked_of : {j : Job} {js : List Job} → All P js → Sent j js → P j
  asked_of none s = elim s [ ]
  asked_of (more k ks) here = k
  asked_of (more k ks) (later s) = asked_of ks s

  asked_also : {j : Job} {js : List Job} → All P js → P j → All P (js ++ (j ∷ []))
  asked_also none k = more k none
  asked_also (more l ks) k = more l (asked_also ks k)

pub asked_as : {P Q : Job → Type 0} → ((j : Job) → P j → Q j) → {js : List Job} → All P js → All Q js
asked_as f none = none
asked_as f (more {j} k ks) = more (f j k) (asked_as f ks)

-- ---- from a memory that was opened
module _ (p : Plan) (base enhancement output marks : List ℕ) (fits : opening_accepted p (length marks) ≡ true) where
  abbrev a : ℕ
  a = length output

  abbrev b : ℕ
  b = length marks

  abbrev begin : Memory
  begin = opened p output marks

  begin_long : length begin.marks ≡ b
  begin_long = ap length (cleared p marks fits) ∙ length-painted _ _ marks

  -- every mark waits, and past them none says full
  begin_waits : (k : ℕ) → k < b → get_or begin.marks k 0 ≡ 0
  begin_waits k l = ap (λ (r : List ℕ). get_or r k 0) (cleared p marks fits) ∙ at-painted _ _ marks k 0 l

  begin_open : (k : ℕ) → full_at begin.marks k ≡ false
  unfolding full_at full
  begin_open k = ⊎_elim (λ l. ap full (begin_waits k l)) (λ l. ap full (get_or-eq_default begin.marks 0 (omega (arith, begin_long)))) (cases_lt k b)

  module _ (js : List Job) (asked : All (Asked p base enhancement a b) js) where
    abbrev end : Memory
    end = run js begin

    abbrev is_full : ℕ → Bool
    is_full k = full_after p a b js k

    abbrev is_named : ℕ → Bool
    is_named k = named a b js k

    end_output : length end.output ≡ a
    end_output = output_run js begin

    end_marks : length end.marks ≡ b
    end_marks = marks_run_long js begin ∙ begin_long

    -- what stands at a place, of a row pair that was not full at the opening
    from_open : (k x y z : ℕ) → after (is_full k) (is_named k) (full_at begin.marks k) x y z ≡ cond (is_full k) x (cond (is_named k) y z)
    from_open k x y z =
        ap (λ (u : Bool). after (is_full k) (is_named k) u x y z) (begin_open k)
        ∙ ap (λ (u : Bool). cond (is_full k) x (cond u y z)) (and-true (is_named k))

    mark_at : (k : ℕ) → k < b → get_or end.marks k 0 ≡ cond (is_full k) 1 (cond (is_named k) 2 0)
    mark_at k l =
        marks_run p base enhancement a b js begin asked refl begin_long k l
        ∙ from_open k 1 2 _
        ∙ ap (λ (n : ℕ). cond (is_full k) 1 (cond (is_named k) 2 n)) (begin_waits k l)

    sample-at : (i : ℕ) → i < a → (let k = pair_at (extent p.header) i in get_or end.output i 0 ≡ cond (is_full k) (composed_at p base enhancement i) (cond (is_named k) (composed_at p base [] i) (get_or output i 0)))
    sample-at i l =
        samples_run p base enhancement a b js begin asked refl begin_long i l
        ∙ from_open (pair_at (extent p.header) i) _ _ _

  -- two sequences whose accepted jobs named and brought the same leave the same
  same_memory : (js is : List Job) → All (Asked p base enhancement a b) js → All (Asked p base enhancement a b) is → ((k : ℕ) → named a b js k ≡ named a b is k) → ((k : ℕ) → enhanced a b js k ≡ enhanced a b is k) → run js begin ≡ run is begin
  unfolding full_after
  same_memory js is ks ls same-named same-enhanced =
      ap₂ memory
      (ext_get_or 0 _ _ (end_output js ks ∙ sym (end_output is ls))
      (λ i l. let c : i < a = omega (arith, end_output js ks) in sample-at js ks i c ∙ same _ _ _ _ ∙ sym (sample-at is ls i c)))
      (ext_get_or 0 _ _ (end_marks js ks ∙ sym (end_marks is ls))
      (λ k l. let c : k < b = omega (arith, end_marks js ks) in mark_at js ks k c ∙ same _ _ _ _ ∙ sym (mark_at is ls k c)))
    where
      same : (k x y z : ℕ) → cond (full_after p a b js k) x (cond (named a b js k) y z) ≡ cond (full_after p a b is k) x (cond (named a b is k) y z)
      same k x y z =
          ap₂ (λ (u v : Bool). cond (cond (eqb p.header.disabled 1) u v) x (cond u y z)) (same-named k) (same-enhanced k)

-- ---- what the next job answers
run_last : (js : List Job) (j : Job) (m : Memory) → run (js ++ (j ∷ [])) m ≡ step j (run js m)
unfolding run
run_last [] j m = refl
run_last (i ∷ js) j m = run_last js j (step i m)

answer-done : (j : Job) (m : Memory) (a b : ℕ) → length m.output ≡ a → length m.marks ≡ b → accepted j a b ≡ true → job_answer j m.output m.marks ≡ granted (tally waits (step j m).marks ∷ tally base_only (step j m).marks ∷ [])
unfolding job_answer accepted
answer-done j m a b e f h = sym (outcome-granted _ _ (ap₂ (job_refusal j) e f ∙ eqb-true _ 0 h))

leaves : (o : Outcome) (n m left base : ℕ) → o ≡ granted (n ∷ m ∷ []) → n ≡ left → m ≡ base → Leaves o left base
leaves o n m left base e q r =
    let d = e ∙ ap₂ (λ (x y : ℕ). granted (x ∷ y ∷ [])) q r in
    record { is_done = ap (λ (x : Outcome). x.refused) d; rows = ap rows_left d; base_only = ap rows_base_only d; all = ap complete d }

-- a mark waits where no job named its row pair, and is base only where one did and none made it full
mark_waits : (w n : Bool) → (n ≡ false → w ≡ false) → waits (cond w 1 (cond n 2 0)) ≡ not n
mark_waits true true h = refl
mark_waits true false h = sym (h refl)
mark_waits false true h = refl
mark_waits false false h = refl

mark_base_only : (w n : Bool) → base_only (cond w 1 (cond n 2 0)) ≡ (n && not w)
mark_base_only true n = sym (and-false n)
mark_base_only false true = refl
mark_base_only false false = refl

-- ---- of jobs that are asked for as much or more
pub any_night : (P : Job → Type 0) (p : Plan) (base enhancement output marks : List ℕ) (js : List Job) → ((j : Job) → P j → Asked p base enhancement (length output) (length marks) j) → opening_accepted p (length marks) ≡ true → All P js → StaysFinished P p base enhancement output marks js
unfolding base_only_after
any_night P p base enhancement output marks js as-asked fits asked =
    record {
      full = λ i l h. sample i l true (is_named i) h refl;
      base_only = λ i l h. let t = both (is_named i) _ h in sample i l false true (not_on _ t.1) t.0;
      others = λ i l h. sample i l false false (not_named a b p js _ h) h;
      marked = λ k l. mark_at p base enhancement output marks fits js ks k (omega (arith, pairs));
      size = end_output p base enhancement output marks fits js ks;
      pairs = end_marks p base enhancement output marks fits js ks;
      next = next;
      sent_again = λ j s. same_memory p base enhancement output marks fits (js ++ (j ∷ [])) js (asked_also ks (asked_of ks s)) ks (λ k. sent_twice a b _ s) (λ k. sent_twice a b _ s);
    }
  where
    a : ℕ
    a = length output

    b : ℕ
    b = length marks

    ks : All (Asked p base enhancement a b) js
    ks = asked_as as-asked asked

    pairs : b ≡ p.header.pairs
    pairs = opening_marked p b fits

    is_named : ℕ → Bool
    is_named i = named a b js (pair_at (extent p.header) i)

    -- a sample, by whether its row pair is full and was named
    sample : (i : ℕ) → i < a → (w n : Bool) → full_after p a b js (pair_at (extent p.header) i) ≡ w → is_named i ≡ n → get_or (run js (opened p output marks)).output i 0 ≡ cond w (composed_at p base enhancement i) (cond n (composed_at p base [] i) (get_or output i 0))
    sample i l w n e f =
        sample-at p base enhancement output marks fits js ks i l
        ∙ ap₂ (λ (u v : Bool). cond u (composed_at p base enhancement i) (cond v (composed_at p base [] i) (get_or output i 0))) e f

    not_on : (w : Bool) → not w ≡ true → w ≡ false
    not_on true e = sym e
    not_on false e = refl

    next : (j : Job) → P j → accepted j a b ≡ true → Leaves (job_answer j (run js (opened p output marks)).output (run js (opened p output marks)).marks) (rows_left_after p a b (js ++ (j ∷ []))) (rows_base_only_after p a b (js ++ (j ∷ [])))
    next j k h =
        let is = js ++ (j ∷ []) in
        let ls : All (Asked p base enhancement a b) is = asked_also ks (as-asked j k) in
        let marks_are = ap (λ (m : Memory). m.marks) (sym (run_last js j (opened p output marks))) in
        let long = end_marks p base enhancement output marks fits is ls ∙ pairs in
        leaves _ _ _ _ _ (answer-done j _ a b (end_output p base enhancement output marks fits js ks) (end_marks p base enhancement output marks fits js ks) h)
        (ap (tally waits) marks_are ∙ counted waits _ _ _ long (λ k l. ap waits (mark_at p base enhancement output marks fits is ls k (omega (arith, pairs))) ∙ mark_waits (full_after p a b is k) (named a b is k) (not_named a b p is k)))
        (ap (tally base_only) marks_are ∙ counted base_only _ _ _ long (λ k l. ap base_only (mark_at p base enhancement output marks fits is ls k (omega (arith, pairs))) ∙ mark_base_only (full_after p a b is k) (named a b is k)))

pub standby_night : StandbyNight
standby_night p base enhancement output marks js = any_night _ p base enhancement output marks js (λ j k. k)

-- a plain job is lent no table
pub plain_asked : {p : Plan} {base enhancement : List ℕ} {a b : ℕ} (j : Job) → AskedPlain p base enhancement a b j → Asked p base enhancement a b j
plain_asked j (k, plain) = (k, record { same_table = λ h t e. absurd (no_table t (sym plain ∙ e)) })
  where
    no_table : (t : List ℕ) → by_plan ≡ by_table t → ⊥
    no_table t e = true≢false (ap is_plan e)
      where
        is_plan : Source → Bool
        is_plan by_plan = true
        is_plan (by_table l) = false

pub plain_night : PlainNight
plain_night p base enhancement output marks js = any_night _ p base enhancement output marks js plain_asked
