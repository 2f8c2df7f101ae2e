-- Demand 3: what any sequence of jobs leaves after one accepted opening, in any order, overlapping, repeated, refused ones between.
use Rattle.std.specs.Prelude.{◌≡◌, true, false, cond, List, [], ◌∷◌, ◌++◌, ℕ, ◌<◌, eqb, length, get_or}
use Rattle.refusals.specs.Refusals.{Outcome}
use Rattle.plan.specs.declared.Plan.{Plan}
use Rattle.picture.specs.Picture.{pair_at}
use Rattle.rules.specs.Rules.{by_plan, by_table, extent}
use Rattle.compose.specs.Composing.{composed_at}
use Rattle.jobs.specs.Jobs.{Job, accepted, job_answer, rows_left, rows_base_only, complete, opening_accepted}
use Rattle.filling.specs.Filling.{filled}
use Rattle.night.specs.Sequence.{run, opened, named, brings, full_after, base_only_after, rows_left_after, rows_base_only_after}

-- the premises on one job: if it is accepted, it got the opening's plan, the same base samples and, if it brings an enhancement, the
-- same enhancement samples. (The demand also has every job given the open ticket as the opening handed it back; the theorem holds
-- without that.)
pub record Keeps (p : Plan) (base enhancement : List ℕ) (a b : ℕ) (j : Job) : Type 0 where
  pub same_plan : accepted j a b ≡ true → j.work.plan ≡ p
  pub same_base : accepted j a b ≡ true → j.work.base ≡ base
  pub same_enhancement : accepted j a b ≡ true → brings j ≡ true → j.work.enhancement ≡ enhancement

-- and the one premise more where there are tables: a table that an accepted job is lent was filled from the opening's plan and not touched since
pub record KeepsTable (p : Plan) (a b : ℕ) (j : Job) : Type 0 where
  pub same_table : accepted j a b ≡ true → (t : List ℕ) → j.work.source ≡ by_table t → t ≡ filled p

-- what demand 3 asks of a job of either kind, and of one where there are plain jobs alone
abbrev pub Asked : Plan → List ℕ → List ℕ → ℕ → ℕ → Job → Type 0
Asked p base enhancement a b j = Keeps p base enhancement a b j × KeepsTable p a b j

abbrev pub AskedPlain : Plan → List ℕ → List ℕ → ℕ → ℕ → Job → Type 0
AskedPlain p base enhancement a b j = Keeps p base enhancement a b j × (j.work.source ≡ by_plan)

-- each job of a sequence is as asked
pub data All (P : Job → Type 0) : List Job → Type 0 where
  none : All P []
  more : {j : Job} {js : List Job} → P j → All P js → All P (j ∷ js)

-- job j is one of a sequence
pub data Sent (j : Job) : List Job → Type 0 where
  here : {js : List Job} → Sent j (j ∷ js)
  later : {i : Job} {js : List Job} → Sent j js → Sent j (i ∷ js)

-- an accepted job answers the row pairs left and those that are base only, and says "complete" exactly where none is left
pub record Leaves (o : Outcome) (left base : ℕ) : Type 0 where
  pub is_done : o.refused ≡ false
  pub rows : rows_left o ≡ left
  pub base_only : rows_base_only o ≡ base
  pub all : complete o ≡ eqb left 0

-- what demand 3 says after the jobs js, and of one job more that is as asked
pub record StaysFinished (P : Job → Type 0) (p : Plan) (base enhancement output marks : List ℕ) (js : List Job) : Type 0 where
  -- each row pair that is full holds what demand 2 says of a job that brings the enhancement, or of any job where the flag is 1
  pub full : (i : ℕ) → i < length output → full_after p (length output) (length marks) js (pair_at (extent p.header) i) ≡ true → get_or (run js (opened p output marks)).output i 0 ≡ composed_at p base enhancement i
  -- each that is base only holds what it says of a job that brings none
  pub base_only : (i : ℕ) → i < length output → base_only_after p (length output) (length marks) js (pair_at (extent p.header) i) ≡ true → get_or (run js (opened p output marks)).output i 0 ≡ composed_at p base [] i
  -- every other row is as at the opening
  pub others : (i : ℕ) → i < length output → named (length output) (length marks) js (pair_at (extent p.header) i) ≡ false → get_or (run js (opened p output marks)).output i 0 ≡ get_or output i 0
  -- the marks say so
  pub marked : (k : ℕ) → k < p.header.pairs → get_or (run js (opened p output marks)).marks k 0 ≡ cond (full_after p (length output) (length marks) js k) 1 (cond (named (length output) (length marks) js k) 2 0)
  -- output and marks are as long as they were
  pub size : length (run js (opened p output marks)).output ≡ length output
  pub pairs : length (run js (opened p output marks)).marks ≡ length marks
  -- the next job, if it is accepted, answers the row pairs that no accepted job so far, itself included, has named, and the base-only ones
  pub next : (j : Job) → P j → accepted j (length output) (length marks) ≡ true →
      (let end = run js (opened p output marks) in
      Leaves (job_answer j end.output end.marks) (rows_left_after p (length output) (length marks) (js ++ (j ∷ []))) (rows_base_only_after p (length output) (length marks) (js ++ (j ∷ []))))
  -- and a job that was sent before changes nothing when it is sent again
  pub sent_again : (j : Job) → Sent j js → run (js ++ (j ∷ [])) (opened p output marks) ≡ run js (opened p output marks)

-- of every plan, picture, memory and sequence of jobs that are as asked
abbrev Night : (Plan → List ℕ → List ℕ → ℕ → ℕ → Job → Type 0) → Type 0
Night asked =
    (p : Plan) (base enhancement output marks : List ℕ) (js : List Job) →
    opening_accepted p (length marks) ≡ true →
    All (asked p base enhancement (length output) (length marks)) js →
    StaysFinished (asked p base enhancement (length output) (length marks)) p base enhancement output marks js

-- demand 3: plain jobs and jobs that are lent a table, mixed in any order
abbrev pub StandbyNight : Type 0
StandbyNight = Night Asked

-- and of plain jobs alone, without a word on tables
abbrev pub PlainNight : Type 0
PlainNight = Night AskedPlain
