-- R-5: two pictures that are open at once, with equal plans, share one table. Jobs only read it, so demand 3 is read for each by itself.
use Rattle.std.specs.Prelude.{◌≡◌, true, List, [], ◌∷◌, ℕ, length}
use Rattle.plan.specs.declared.Plan.{Plan}
use Rattle.rules.specs.Rules.{by_table}
use Rattle.filling.specs.Filling.{filled}
use Rattle.jobs.specs.Jobs.{Job, opening_accepted}
use Rattle.calls.specs.Calls.{Memory}
use Rattle.night.specs.Sequence.{step, run, opened}
use Rattle.night.specs.Night.{Keeps, All, StaysFinished}

-- a job of one of two pictures, and the jobs of each in a sequence
pub data Turn : Type 0 where
  first : Job → Turn
  second : Job → Turn

unfoldable pub of_first : List Turn → List Job
of_first [] = []
of_first (first j ∷ ts) = j ∷ of_first ts
of_first (second j ∷ ts) = of_first ts

unfoldable pub of_second : List Turn → List Job
of_second [] = []
of_second (first j ∷ ts) = of_second ts
of_second (second j ∷ ts) = j ∷ of_second ts

-- both memories after a sequence of jobs in turn: a job writes its own picture's alone
unfoldable pub run_both : List Turn → Memory → Memory → Memory × Memory
run_both [] m n = (m, n)
run_both (first j ∷ ts) m n = run_both ts (step j m) n
run_both (second j ∷ ts) m n = run_both ts m (step j n)

-- a job of a picture keeps demand 3's premises, and whatever table it is lent is the one that is shared
abbrev pub Sharing : List ℕ → Plan → List ℕ → List ℕ → ℕ → ℕ → Job → Type 0
Sharing table p base enhancement a b j = Keeps p base enhancement a b j × ((t : List ℕ) → j.work.source ≡ by_table t → t ≡ table)

-- what a picture, and the memory that it was opened in, has by its own jobs alone
pub record ByItself (table : List ℕ) (p : Plan) (base enhancement output marks : List ℕ) (js : List Job) (m : Memory) : Type 0 where
  pub memory_is : m ≡ run js (opened p output marks)
  pub finished : StaysFinished (Sharing table p base enhancement (length output) (length marks)) p base enhancement output marks js

-- the table was filled from the plan of both
abbrev pub TwoPictures : Type 0
TwoPictures =
    (p : Plan) (base enhancement output marks base' enhancement' output' marks' : List ℕ) (ts : List Turn) →
    opening_accepted p (length marks) ≡ true → opening_accepted p (length marks') ≡ true →
    All (Sharing (filled p) p base enhancement (length output) (length marks)) (of_first ts) →
    All (Sharing (filled p) p base' enhancement' (length output') (length marks')) (of_second ts) →
    (let end = run_both ts (opened p output marks) (opened p output' marks') in
    ByItself (filled p) p base enhancement output marks (of_first ts) end.0 × ByItself (filled p) p base' enhancement' output' marks' (of_second ts) end.1)
