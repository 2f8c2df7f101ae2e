-- The house rules' case of a picture with H = 4: the jobs (0, 1), (0, 1), (1, 1) leave 1, 1 and 0 row pairs, and (2, 1) is refused 10.
use Rattle.std.specs.Prelude.{◌≡◌, List, [], ◌∷◌, ℕ, pos, replicate}
use Rattle.refusals.specs.Refusals.{Outcome}
use Rattle.plan.specs.declared.Header.{Header}
use Rattle.plan.specs.declared.Piece.{Piece}
use Rattle.plan.specs.declared.Component.{Component}
use Rattle.plan.specs.declared.Plan.{Plan}
use Rattle.plan.specs.Rule7.{zero_piece, no_component}
use Rattle.jobs.specs.Jobs.{Job, job, job_answer}
use Rattle.calls.specs.Calls.{Memory}
use Rattle.night.specs.Sequence.{run, opened}
use Rattle.night.specs.Night.{Leaves}

-- W = 2 and H = 4, depth 10 to 12, every component linear, no residual
abbrev four_rows_header : Header
four_rows_header = record { profile = 1; level = 0; d = 15; bl = 2; el = 2; hdr = 4; disabled = 1; columns = 1; pairs = 2; brightest = 1000; darkest = 1 }

abbrev linear_piece : Piece
linear_piece = record { idc = 0; order = 0; row = pos 0 ∷ pos 32768 ∷ replicate 20 (pos 0) }

abbrev linear : Component
linear = record { n = 0; preds = 0 ∷ 1023 ∷ replicate 15 0; pieces = linear_piece ∷ linear_piece ∷ replicate 15 zero_piece; nlq = no_component.nlq }

abbrev four_rows : Plan
four_rows = record { header = four_rows_header; y = linear; cb = linear; cr = linear }

abbrev base : List ℕ
base = 1 ∷ 2 ∷ 3 ∷ 4 ∷ 5 ∷ 6 ∷ 7 ∷ 8 ∷ 9 ∷ 10 ∷ 11 ∷ 1023 ∷ []

-- a job of the picture that is open under ticket 5
abbrev sent : ℕ → ℕ → Job
sent first count = job four_rows 5 5 first count base []

-- the memory after some jobs: the opening found old marks and old samples
abbrev after : List Job → Memory
after js = run js (opened four_rows (replicate 12 77) (1 ∷ 200 ∷ []))

-- what one job more answers
abbrev answered : Job → List Job → Outcome
answered j js = job_answer j (after js).output (after js).marks

abbrev all_sent : List Job
all_sent = sent 0 1 ∷ sent 0 1 ∷ sent 1 1 ∷ []

pub record FourRows : Type 0 where
  pub first : Leaves (answered (sent 0 1) []) 1 0
  pub again : Leaves (answered (sent 0 1) (sent 0 1 ∷ [])) 1 0
  pub second : Leaves (answered (sent 1 1) (sent 0 1 ∷ sent 0 1 ∷ [])) 0 0
  pub past : (answered (sent 2 1) all_sent).number ≡ 10
  -- after the first job its rows are composed, and the others are old; at the end all are composed
  pub torn : (after (sent 0 1 ∷ [])).output ≡ 4 ∷ 8 ∷ 12 ∷ 16 ∷ 77 ∷ 77 ∷ 77 ∷ 77 ∷ 36 ∷ 77 ∷ 44 ∷ 77 ∷ []
  pub whole : (after all_sent).output ≡ 4 ∷ 8 ∷ 12 ∷ 16 ∷ 20 ∷ 24 ∷ 28 ∷ 32 ∷ 36 ∷ 40 ∷ 44 ∷ 4092 ∷ []
