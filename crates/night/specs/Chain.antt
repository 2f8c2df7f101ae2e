-- Demand 3 of the calls themselves, each of which ends as its promise says.
use Rattle.std.specs.Prelude.{◌≡◌, true, false, List, [], ◌∷◌, ◌++◌, ℕ, length}
use Rattle.refusals.specs.Refusals.{Outcome, granted}
use Rattle.plan.specs.declared.Plan.{Plan}
use Rattle.jobs.specs.Jobs.{Job, accepted, job_answer}
use Rattle.calls.specs.Calls.{Memory, memory, OpenCall, opening_plan, opening_ticket, marks_before, marks_opened, opening_said, AnyJobCall, any_done}
use Rattle.night.specs.Sequence.{step, run, opened, rows_left_after, rows_base_only_after}
use Rattle.night.specs.Night.{Asked, All, Leaves, StaysFinished}

-- calls one after the other on one memory, with their jobs and what they said
pub data Calls : Memory → List Job → List Outcome → Memory → Type 0 where
  none : {m : Memory} → Calls m [] [] m
  more : {js : List Job} {os : List Outcome} {m : Memory} (c : AnyJobCall) → Calls (any_done c).afterwards js os m → Calls (any_done c).before ((any_done c).given ∷ js) ((any_done c).said ∷ os) m

-- the answer that each job of a sequence has at its place
unfoldable pub answers : List Job → Memory → List Outcome
answers [] m = []
answers (j ∷ js) m = job_answer j m.output m.marks ∷ answers js (step j m)

-- what demand 3 says of the calls
module _ (p : Plan) (base enhancement output marks : List ℕ) (js : List Job) where
  pub record CallsStayFinished (os : List Outcome) (m : Memory) : Type 0 where
    -- the memory and the answers are those of the theorem
    pub memory_is : m ≡ run js (opened p output marks)
    pub answers_are : os ≡ answers js (opened p output marks)
    pub finished : StaysFinished (Asked p base enhancement (length output) (length marks)) p base enhancement output marks js
    -- the next call, if its job is accepted, answers the row pairs left and the base-only ones
    pub next : (c : AnyJobCall) → (any_done c).before ≡ m → Asked p base enhancement (length output) (length marks) (any_done c).given → accepted (any_done c).given (length output) (length marks) ≡ true →
        Leaves (any_done c).said (rows_left_after p (length output) (length marks) (js ++ ((any_done c).given ∷ []))) (rows_base_only_after p (length output) (length marks) (js ++ ((any_done c).given ∷ [])))

-- a call of `open_picture` that is not refused, and then any calls of `compose_job` and `compose_table_job` that keep demand 3's premises
abbrev pub AnyChainOfCalls : Type 0
AnyChainOfCalls =
    (o : OpenCall) → (opening_said o).refused ≡ false →
    (base enhancement output : List ℕ) (js : List Job) (os : List Outcome) (m : Memory) → Calls (memory output (marks_opened o)) js os m →
    All (Asked (opening_plan o) base enhancement (length output) (length (marks_before o))) js →
    (opening_said o ≡ granted (opening_ticket o ∷ [])) × CallsStayFinished (opening_plan o) base enhancement output (marks_before o) js os m
