-- Calls of `open_picture`, `fill_table`, `compose_job` and `compose_table_job` that have ended as their promises say: what they were
-- handed, what they answered, and what they left in the memory that they were lent. The places of the parameters are named here, once.
use Rattle.std.specs.Prelude.{List, ℕ}
use Rattle.refusals.specs.Refusals.{Outcome}
use Rattle.plan.specs.declared.Plan.{Plan}
use Rattle.jobs.specs.Jobs.{Job, job, table_job, says, opened_says}
use Rattle.filling.specs.Filling.{says as filling_says}
use Rattle.calls.specs.promises.open_picture as opening
use Rattle.calls.specs.promises.compose_job as composing
use Rattle.calls.specs.promises.fill_table as filling
use Rattle.calls.specs.promises.compose_table_job as looking_up

-- the memory that jobs write
pub record Memory : Type 0 where
  pub output : List ℕ
  pub marks : List ℕ

abbrev pub memory : List ℕ → List ℕ → Memory
memory output marks = record { output = output; marks = marks }

-- a call that has ended as it promises: by its lifetimes, what it was handed, what it answered and what it left
pub record Ended {K : Type 0} {Handed Answered Left : K → Type 0} (Post : (κs : K) → Handed κs → Answered κs → Left κs → Type 0) : Type 0 where
  pub lifetimes : K
  pub handed : Handed lifetimes
  pub answered : Answered lifetimes
  pub left : Left lifetimes
  pub kept : Post lifetimes handed answered left

-- open_picture(plan, ticket, marks)
abbrev pub OpenCall : Type 0
OpenCall = Ended opening.Post

module _ (c : OpenCall) where
  abbrev pub opening_plan : Plan
  opening_plan = c.handed.0

  abbrev pub opening_ticket : ℕ
  opening_ticket = c.handed.1.0

  abbrev pub marks_before : List ℕ
  marks_before = c.handed.1.1.0.now

  abbrev pub marks_opened : List ℕ
  marks_opened = c.left.1.1.0.now

  abbrev pub opening_said : Outcome
  opening_said = opened_says c.answered

-- fill_table(plan, table)
abbrev pub FillCall : Type 0
FillCall = Ended filling.Post

module _ (c : FillCall) where
  abbrev pub filling_plan : Plan
  filling_plan = c.handed.0

  abbrev pub table_filled : List ℕ
  table_filled = c.left.1.0.now

  abbrev pub filling_said : Outcome
  filling_said = filling_says c.answered

-- a call of one of the two jobs: what it was given, the memory before it and after it, and what it said
pub record Done : Type 0 where
  pub given : Job
  pub before : Memory
  pub afterwards : Memory
  pub said : Outcome

-- compose_job(plan, open_ticket, ticket, first, count, base, enhancement, output, marks)
abbrev pub JobCall : Type 0
JobCall = Ended composing.Post

abbrev pub done : JobCall → Done
done c =
    let tickets = c.handed.1 in
    let rows = tickets.1.1 in
    let pictures = rows.1.1 in
    let left = c.left.1.1.1.1.1 in
    record {
      given = job c.handed.0 tickets.0 tickets.1.0 rows.0 rows.1.0 pictures.0.now pictures.1.0.now;
      before = memory pictures.1.1.0.now pictures.1.1.1.0.now;
      afterwards = memory left.1.1.0.now left.1.1.1.0.now;
      said = says c.answered;
    }

-- compose_table_job(plan, table, open_ticket, ticket, first, count, base, enhancement, output, marks)
abbrev pub TableCall : Type 0
TableCall = Ended looking_up.Post

abbrev pub table_done : TableCall → Done
table_done c =
    let tickets = c.handed.1.1 in
    let rows = tickets.1.1 in
    let pictures = rows.1.1 in
    let left = c.left.1.1.1.1.1.1 in
    record {
      given = table_job c.handed.0 c.handed.1.0.now tickets.0 tickets.1.0 rows.0 rows.1.0 pictures.0.now pictures.1.0.now;
      before = memory pictures.1.1.0.now pictures.1.1.1.0.now;
      afterwards = memory left.1.1.0.now left.1.1.1.0.now;
      said = says c.answered;
    }

-- a call of either
pub data AnyJobCall : Type 0 where
  plain : JobCall → AnyJobCall
  lent : TableCall → AnyJobCall

abbrev pub any_done : AnyJobCall → Done
any_done (plain c) = done c
any_done (lent c) = table_done c
