-- What demand 3 said before R-6, when the enhancement came with every job or with none: it holds as it did.
use Rattle.std.specs.Prelude.{◌≡◌, true, false, List, [], ◌∷◌, ◌++◌, ℕ, ◌<◌, eqb, length, get_or}
use Rattle.refusals.specs.Refusals.{Outcome}
use Rattle.plan.specs.declared.Plan.{Plan}
use Rattle.picture.specs.Picture.{pair_at}
use Rattle.rules.specs.Rules.{extent}
use Rattle.compose.specs.Composing.{composed_at}
use Rattle.jobs.specs.Jobs.{Job, accepted, job_answer, rows_left, complete, opening_accepted}
use Rattle.night.specs.Sequence.{run, opened, named, rows_left_after}
use Rattle.night.specs.Night.{KeepsTable, All, Sent}

-- every accepted job got the opening's plan, the same base samples and, unless the flag disables it, the same enhancement: all bring
-- it, or where it is empty none does
pub record KeepsAll (p : Plan) (base enhancement : List ℕ) (a b : ℕ) (j : Job) : Type 0 where
  pub same_plan : accepted j a b ≡ true → j.work.plan ≡ p
  pub same_base : accepted j a b ≡ true → j.work.base ≡ base
  pub same_enhancement : accepted j a b ≡ true → p.header.disabled ≡ 0 → j.work.enhancement ≡ enhancement

abbrev pub AskedInTime : Plan → List ℕ → List ℕ → ℕ → ℕ → Job → Type 0
AskedInTime p base enhancement a b j = KeepsAll p base enhancement a b j × KeepsTable p a b j

pub record LeavesRows (o : Outcome) (left : ℕ) : Type 0 where
  pub is_done : o.refused ≡ false
  pub rows : rows_left o ≡ left
  pub all : complete o ≡ eqb left 0

-- each row pair that some accepted job named holds what demand 2 says of any of them
pub record FinishedInTime (P : Job → Type 0) (p : Plan) (base enhancement output marks : List ℕ) (js : List Job) : Type 0 where
  pub composed : (i : ℕ) → i < length output → named (length output) (length marks) js (pair_at (extent p.header) i) ≡ true → get_or (run js (opened p output marks)).output i 0 ≡ composed_at p base enhancement i
  pub others : (i : ℕ) → i < length output → named (length output) (length marks) js (pair_at (extent p.header) i) ≡ false → get_or (run js (opened p output marks)).output i 0 ≡ get_or output i 0
  pub size : length (run js (opened p output marks)).output ≡ length output
  pub next : (j : Job) → P j → accepted j (length output) (length marks) ≡ true →
      (let end = run js (opened p output marks) in
      LeavesRows (job_answer j end.output end.marks) (rows_left_after p (length output) (length marks) (js ++ (j ∷ []))))
  pub sent_again : (j : Job) → Sent j js → run (js ++ (j ∷ [])) (opened p output marks) ≡ run js (opened p output marks)

abbrev pub NightInTime : Type 0
NightInTime =
    (p : Plan) (base enhancement output marks : List ℕ) (js : List Job) →
    opening_accepted p (length marks) ≡ true →
    All (AskedInTime p base enhancement (length output) (length marks)) js →
    FinishedInTime (AskedInTime p base enhancement (length output) (length marks)) p base enhancement output marks js
