-- What a sequence of jobs that are as asked leaves at each place, from any memory. Assumes nothing.
use mathlib.Core.Path.{◌≡◌, refl, sym, ap, ap₂, ◌∙◌}
use mathlib.Core.Bool.{Bool, true, false, not, ◌&&◌, ◌||◌, cond, and-true}
use mathlib.Core.List.{List, [], ◌∷◌}
use mathlib.Core.Logic.{⊎_elim}
use Prim.Native.Nat.{ℕ, ◌≤◌, ◌<◌}
use native.Mathlib.Omega.{arith}
use lib.Dec.{eqb}
use lib.ListN.{length, get_or, get_or-eq_default}
use borrow.Author.Tests.{eqb-true}
use Rattle.runs.specs.Runs.{painted}
use Rattle.std.proofs.lemmas.Bool.{cases_lt}
use Rattle.runs.proofs.Painting.{length-painted}
use Rattle.refusals.proofs.Laws.{neither}
use Rattle.picture.specs.Picture.{pair_at}
use Rattle.plan.specs.declared.Plan.{Plan}
use Rattle.plan.proofs.Truths.{both}
use Rattle.rules.specs.Rules.{by_plan, extent, names, used}
use Rattle.marks.specs.Marks.{full, full_at}
use Rattle.compose.specs.Composing.{composed_at, composes, makes_full}
use Rattle.jobs.specs.Jobs.{Job, accepted, sample, is_full, output_after, marks_after}
use Rattle.jobs.proofs.Samples.{sample_by, mark_by, same_sample, unused_sample}
use Rattle.jobs.proofs.Accepting.{accepted-job, named-marked}
use Rattle.filling.specs.Filling.{filled}
use Rattle.table_jobs.proofs.Same.{same_composed}
use Rattle.calls.specs.Calls.{Memory}
use Rattle.night.specs.Sequence.{step, run, some_accepted, named, brings, enhanced, full_after}
use Rattle.night.specs.Night.{Asked, All, none, more}
use Rattle.night.proofs.OneRowPair.{after, one_job, full_then, mark_then, one_more}

-- ---- one job, from any memory
module _ (j : Job) (m : Memory) where
  as_long : (u : Bool) (s : ℕ → Bool) (f : ℕ → ℕ) (l : List ℕ) → length (cond u (painted s f l) l) ≡ length l
  as_long true s f l = length-painted s f l
  as_long false s f l = refl

  pub output_long : length (step j m).output ≡ length m.output
  unfolding output_after
  output_long = as_long (accepted j (length m.output) (length m.marks)) _ _ m.output

  pub marks_long : length (step j m).marks ≡ length m.marks
  unfolding marks_after
  marks_long = as_long (accepted j (length m.output) (length m.marks)) _ _ m.marks

  module _ (a b : ℕ) (e : length m.output ≡ a) (f : length m.marks ≡ b) where
    -- it is accepted and names row pair k, and makes it full
    abbrev pub names_it : ℕ → Bool
    names_it k = accepted j a b && names j.work k

    abbrev pub fills_it : ℕ → Bool
    fills_it k = names_it k && is_full j

    -- a mark, and whether it says full
    pub mark_step : (k : ℕ) → k < b → get_or (step j m).marks k 0 ≡ after (fills_it k) (names_it k) (full_at m.marks k) 1 2 (get_or m.marks k 0)
    unfolding composes
    mark_step k l =
        mark_by j m.output m.marks (accepted j a b) (composes j.work m.marks k) (ap₂ (accepted j) e f) k (omega (arith, f)) refl
        ∙ one_job (accepted j a b) (names j.work k) (is_full j) (full_at m.marks k) (cond (is_full j) 1 2) 1 2 _ (λ n w. ap (λ (u : Bool). cond u 1 2) w) (λ n w. ap (λ (u : Bool). cond u 1 2) w)

    pub full-step : (k : ℕ) → full_at (step j m).marks k ≡ full_then (fills_it k) (names_it k) (full_at m.marks k)
    unfolding full_at
    full-step k = ⊎_elim
        (λ l. ap full (mark_step k l) ∙ mark_then (fills_it k) (names_it k) (get_or m.marks k 0))
        (λ l. past k l (names_it k) refl)
        (cases_lt k b)
      where
        past : (k : ℕ) → b ≤ k → (u : Bool) → names_it k ≡ u → full (get_or (step j m).marks k 0) ≡ full_then (u && is_full j) u (full (get_or m.marks k 0))
        past k l true h = absurd (omega (arith, named-marked j a b k (both (accepted j a b) _ h).0 (both (accepted j a b) _ h).1))
        past k l false h = ap full (get_or-eq_default (step j m).marks 0 (omega (arith, marks_long, f)) ∙ sym (get_or-eq_default m.marks 0 (omega (arith, f))))

-- ---- one job that is as asked
module _ (p : Plan) (base enhancement : List ℕ) (a b : ℕ) where
  -- whatever its mapped samples are from, its samples are those of the plan
  by_the_plan : (j : Job) → Asked p base enhancement a b j → accepted j a b ≡ true → (i : ℕ) → names j.work (pair_at (extent j.work.plan.header) i) ≡ true → sample j i ≡ composed_at p base j.work.enhancement i
  unfolding accepted
  by_the_plan j (k, t) h i n =
      same_composed j.work a (accepted-job j a b (eqb-true _ 0 h)).work (λ l e. t.same_table h l e ∙ ap filled (sym (k.same_plan h))) i n
      ∙ ap₂ (λ (q : Plan) (s : List ℕ). composed_at q s j.work.enhancement i) (k.same_plan h) (k.same_base h)

  -- a job that makes full row pairs brings the enhancement, or the flag is 1 and it does not count
  enhanced_sample : (j : Job) → Asked p base enhancement a b j → accepted j a b ≡ true → is_full j ≡ true → (i : ℕ) → composed_at p base j.work.enhancement i ≡ composed_at p base enhancement i
  unfolding makes_full
  enhanced_sample j (k, t) h w i =
      same_sample by_plan p base j.work.enhancement enhancement i
      (λ off. k.same_enhancement h (on (ap (λ (q : Plan). q.header.disabled) (k.same_plan h) ∙ off) w))
    where
      on : j.work.plan.header.disabled ≡ 0 → (eqb j.work.plan.header.disabled 1 || brings j) ≡ true → brings j ≡ true
      on off u = ap (λ (n : ℕ). eqb n 1 || brings j) (sym off) ∙ u

  base-sample : (j : Job) → Asked p base enhancement a b j → accepted j a b ≡ true → is_full j ≡ false → (i : ℕ) → composed_at p base j.work.enhancement i ≡ composed_at p base [] i
  unfolding makes_full
  base-sample j (k, t) h w i =
      unused_sample by_plan p base j.work.enhancement i
      (ap (λ (q : Plan). used q.header (length j.work.enhancement)) (sym (k.same_plan h)) ∙ (neither (eqb j.work.plan.header.disabled 1) _ w).1)

  sample-step : (j : Job) (m : Memory) → Asked p base enhancement a b j → (e : length m.output ≡ a) (f : length m.marks ≡ b) (i : ℕ) → i < a → (let k = pair_at (extent p.header) i in get_or (step j m).output i 0 ≡ after (fills_it j m a b e f k) (names_it j m a b e f k) (full_at m.marks k) (composed_at p base enhancement i) (composed_at p base [] i) (get_or m.output i 0))
  unfolding composes
  sample-step j m asked e f i l = go (accepted j a b) refl
    where
      k : ℕ
      k = pair_at (extent p.header) i

      go : (u : Bool) → accepted j a b ≡ u → get_or (step j m).output i 0 ≡ after ((u && names j.work k) && is_full j) (u && names j.work k) (full_at m.marks k) (composed_at p base enhancement i) (composed_at p base [] i) (get_or m.output i 0)
      go true h =
          let here : pair_at (extent j.work.plan.header) i ≡ k = ap (λ (q : Plan). pair_at (extent q.header) i) (asked.0.same_plan h) in
          let mine : names j.work k ≡ true → sample j i ≡ composed_at p base j.work.enhancement i = λ n. by_the_plan j asked h i (ap (names j.work) here ∙ n) in
          sample_by j m.output m.marks true (composes j.work m.marks k) (ap₂ (accepted j) e f ∙ h) i (omega (arith, e)) (ap (composes j.work m.marks) here)
          ∙ one_job true (names j.work k) (is_full j) (full_at m.marks k) (sample j i) _ _ _ (λ n w. mine n ∙ enhanced_sample j asked h w i) (λ n w. mine n ∙ base-sample j asked h w i)
      go false h = sample_by j m.output m.marks false (composes j.work m.marks (pair_at (extent j.work.plan.header) i)) (ap₂ (accepted j) e f ∙ h) i (omega (arith, e)) refl

  -- ---- any number of jobs
  none_full : (k : ℕ) → full_after p a b [] k ≡ false
  unfolding full_after some_accepted
  none_full k = go (eqb p.header.disabled 1)
    where
      go : (u : Bool) → cond u false false ≡ false
      go true = refl
      go false = refl

  full_more : (j : Job) (js : List Job) (k : ℕ) → Asked p base enhancement a b j → full_after p a b (j ∷ js) k ≡ (((accepted j a b && names j.work k) && is_full j) || full_after p a b js k)
  unfolding full_after some_accepted makes_full
  full_more j js k asked = go (accepted j a b) refl
    where
      flag : ℕ → Bool
      flag n = eqb n 1

      by_flag : (u : Bool) (n r x y : Bool) → cond u (n || x) ((n && r) || y) ≡ ((n && (u || r)) || cond u x y)
      by_flag true n r x y = ap (λ (v : Bool). v || x) (sym (and-true n))
      by_flag false n r x y = refl

      go : (u : Bool) → accepted j a b ≡ u → cond (flag p.header.disabled) ((u && names j.work k) || named a b js k) ((u && (names j.work k && brings j)) || enhanced a b js k) ≡ (((u && names j.work k) && (flag j.work.plan.header.disabled || brings j)) || cond (flag p.header.disabled) (named a b js k) (enhanced a b js k))
      go true h =
          by_flag (flag p.header.disabled) (names j.work k) (brings j) (named a b js k) (enhanced a b js k)
          ∙ ap (λ (q : Plan). (names j.work k && (flag q.header.disabled || brings j)) || cond (flag p.header.disabled) (named a b js k) (enhanced a b js k)) (sym (asked.0.same_plan h))
      go false h = refl

  -- whatever one job does by these, a sequence does
  module _ (k : ℕ) (x y : ℕ) (value : Memory → ℕ) (one : (j : Job) (m : Memory) → Asked p base enhancement a b j → (e : length m.output ≡ a) (f : length m.marks ≡ b) → value (step j m) ≡ after (fills_it j m a b e f k) (names_it j m a b e f k) (full_at m.marks k) x y (value m)) where
    pub all_jobs : (js : List Job) (m : Memory) → All (Asked p base enhancement a b) js → length m.output ≡ a → length m.marks ≡ b → value (run js m) ≡ after (full_after p a b js k) (named a b js k) (full_at m.marks k) x y (value m)
    unfolding run some_accepted
    all_jobs [] m none e f = sym (ap (λ (u : Bool). cond u x (value m)) (none_full k))
    all_jobs (j ∷ js) m (more asked ks) e f =
        all_jobs js (step j m) ks (output_long j m ∙ e) (marks_long j m ∙ f)
        ∙ ap₂ (λ (q : Bool) (z : ℕ). after (full_after p a b js k) (named a b js k) q x y z) (full-step j m a b e f k) (one j m asked e f)
        ∙ one_more (fills_it j m a b e f k) (names_it j m a b e f k) (full_after p a b js k) (named a b js k) (full_at m.marks k) x y (value m)
        ∙ sym (ap (λ (u : Bool). after u (named a b (j ∷ js) k) (full_at m.marks k) x y (value m)) (full_more j js k asked))

  pub marks_run : (js : List Job) (m : Memory) → All (Asked p base enhancement a b) js → length m.output ≡ a → length m.marks ≡ b → (k : ℕ) → k < b → get_or (run js m).marks k 0 ≡ after (full_after p a b js k) (named a b js k) (full_at m.marks k) 1 2 (get_or m.marks k 0)
  marks_run js m asked e f k l = all_jobs k 1 2 (λ m. get_or m.marks k 0) (λ j m q e f. mark_step j m a b e f k l) js m asked e f

  pub samples_run : (js : List Job) (m : Memory) → All (Asked p base enhancement a b) js → length m.output ≡ a → length m.marks ≡ b → (i : ℕ) → i < a → (let k = pair_at (extent p.header) i in get_or (run js m).output i 0 ≡ after (full_after p a b js k) (named a b js k) (full_at m.marks k) (composed_at p base enhancement i) (composed_at p base [] i) (get_or m.output i 0))
  samples_run js m asked e f i l = all_jobs (pair_at (extent p.header) i) _ _ (λ m. get_or m.output i 0) (λ j m q e f. sample-step j m q e f i l) js m asked e f

pub output_run : (js : List Job) (m : Memory) → length (run js m).output ≡ length m.output
unfolding run
output_run [] m = refl
output_run (j ∷ js) m = output_run js (step j m) ∙ output_long j m

pub marks_run_long : (js : List Job) (m : Memory) → length (run js m).marks ≡ length m.marks
unfolding run
marks_run_long [] m = refl
marks_run_long (j ∷ js) m = marks_run_long js (step j m) ∙ marks_long j m
