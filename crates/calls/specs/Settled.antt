-- For every input the promise of each call that reads or writes something of a user's leaves one answer, and one content of each run
-- that it was lent: two outcomes that the promise allows are equal. A promise is the call's `Post` in
-- `promises`, which has the clauses of its contract; `calls::promises` has each call once more, proved to keep it.
use Rattle.std.specs.Prelude.{◌≡◌, List, ℕ}
use Rattle.calls.specs.promises.passes as passes_promise
use Rattle.calls.specs.promises.empty as empty_promise
use Rattle.calls.specs.promises.read as read_promise
use Rattle.calls.specs.promises.write as write_promise
use Rattle.calls.specs.promises.length as length_promise
use Rattle.calls.specs.promises.compose_row_pairs as compose_row_pairs_promise
use Rattle.calls.specs.promises.open_picture as open_picture_promise
use Rattle.calls.specs.promises.compose_job as compose_job_promise
use Rattle.calls.specs.promises.fill_table as fill_table_promise
use Rattle.calls.specs.promises.compose_by_table as compose_by_table_promise
use Rattle.calls.specs.promises.compose_table_job as compose_table_job_promise
use Rattle.calls.specs.Calls.{Ended, marks_opened, table_filled, done, table_done}

-- of a promise: two calls that were handed the same answer the same, and leave the same in a run that they were lent
module _ {K : Type 0} {Handed Answered Left : K → Type 0} (Post : (κs : K) → Handed κs → Answered κs → Left κs → Type 0) where
  abbrev pub OneAnswer : Type 0
  OneAnswer = (κs : K) (a : Handed κs) (r r' : Answered κs) (s s' : Left κs) → Post κs a r s → Post κs a r' s' → r ≡ r'

  abbrev ended : (κs : K) (a : Handed κs) (r : Answered κs) (s : Left κs) → Post κs a r s → Ended Post
  ended κs a r s p = record { lifetimes = κs; handed = a; answered = r; left = s; kept = p }

  abbrev pub OneContent : (Ended Post → List ℕ) → Type 0
  OneContent lent = (κs : K) (a : Handed κs) (r r' : Answered κs) (s s' : Left κs) (p : Post κs a r s) (q : Post κs a r' s') → lent (ended κs a r s p) ≡ lent (ended κs a r' s' q)

-- the answer of each such call, and the content of each run that one writes
pub record Settled : Type 0 where
  pub passes : OneAnswer passes_promise.Post
  pub empty : OneAnswer empty_promise.Post
  pub read : OneAnswer read_promise.Post
  pub write : OneAnswer write_promise.Post
  pub written_slice : OneContent write_promise.Post (λ c. c.left.1.1.0.now)
  pub length : OneAnswer length_promise.Post
  pub compose_row_pairs : OneAnswer compose_row_pairs_promise.Post
  pub composed_output : OneContent compose_row_pairs_promise.Post (λ c. let pictures = c.left.1.1.1 in pictures.1.1.1.0.now)
  pub open_picture : OneAnswer open_picture_promise.Post
  pub opened_marks : OneContent open_picture_promise.Post marks_opened
  pub compose_job : OneAnswer compose_job_promise.Post
  pub job_output : OneContent compose_job_promise.Post (λ c. (done c).afterwards.output)
  pub job_marks : OneContent compose_job_promise.Post (λ c. (done c).afterwards.marks)
  pub fill_table : OneAnswer fill_table_promise.Post
  pub filled_table : OneContent fill_table_promise.Post table_filled
  pub compose_by_table : OneAnswer compose_by_table_promise.Post
  pub composed_by_table : OneContent compose_by_table_promise.Post (λ c. let pictures = c.left.1.1.1.1 in pictures.1.1.1.0.now)
  pub compose_table_job : OneAnswer compose_table_job_promise.Post
  pub table_job_output : OneContent compose_table_job_promise.Post (λ c. (table_done c).afterwards.output)
  pub table_job_marks : OneContent compose_table_job_promise.Post (λ c. (table_done c).afterwards.marks)
