-- R-5: where a table was filled from the plan and not touched since, both job calls give the same on every input.
use Rattle.std.specs.Prelude.{◌≡◌, false}
use Rattle.jobs.specs.Jobs.{lend}
use Rattle.calls.specs.Calls.{FillCall, filling_plan, table_filled, filling_said, JobCall, done, TableCall, table_done}

-- a plain call and a call that is lent a table, which find the same memory
pub record Alike (c : JobCall) (t : TableCall) : Type 0 where
  pub answer : (table_done t).said ≡ (done c).said
  pub memory : (table_done t).afterwards ≡ (done c).afterwards

-- a filling that is not refused, a plain call with its plan, and the same call with the table that the filling left
abbrev pub BothCallsAlike : Type 0
BothCallsAlike =
    (f : FillCall) → (filling_said f).refused ≡ false →
    (c : JobCall) (t : TableCall) → (done c).given.work.plan ≡ filling_plan f →
    (table_done t).given ≡ lend (table_filled f) (done c).given → (table_done t).before ≡ (done c).before →
    Alike c t
