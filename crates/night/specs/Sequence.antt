-- What a sequence of jobs leaves in the memory, and what its accepted jobs have named and brought.
use Rattle.std.specs.Prelude.{Bool, false, not, ◌&&◌, ◌||◌, cond, List, [], ◌∷◌, ℕ, zero, suc, ◌+◌, eqb, length}
use Rattle.plan.specs.declared.Plan.{Plan}
use Rattle.rules.specs.Rules.{names, used}
use Rattle.jobs.specs.Jobs.{Job, accepted, output_after, marks_after, opening_marks}
use Rattle.calls.specs.Calls.{Memory, memory}

-- what one job and then a sequence of jobs leaves in the memory that jobs write
abbrev pub step : Job → Memory → Memory
step j m = memory (output_after j m.output m.marks) (marks_after j m.output m.marks)

unfoldable pub run : List Job → Memory → Memory
run [] m = m
run (j ∷ js) m = run js (step j m)

-- the memory after an opening, from any output and any marks
abbrev pub opened : Plan → List ℕ → List ℕ → Memory
opened p output marks = memory output (opening_marks p marks)

-- some accepted job of the sequence passes a test; a and b are the lengths of the output and of the marks
unfoldable pub some_accepted : ℕ → ℕ → (Job → Bool) → List Job → Bool
some_accepted a b test [] = false
some_accepted a b test (j ∷ js) = (accepted j a b && test j) || some_accepted a b test js

-- some accepted job named row pair k
abbrev pub named : ℕ → ℕ → List Job → ℕ → Bool
named a b js k = some_accepted a b (λ j. names j.work k) js

-- R-6: a job brings an enhancement picture that is used; some accepted job that named row pair k brought one
abbrev pub brings : Job → Bool
brings j = used j.work.plan.header (length j.work.enhancement)

abbrev pub enhanced : ℕ → ℕ → List Job → ℕ → Bool
enhanced a b js k = some_accepted a b (λ j. names j.work k && brings j) js

-- a row pair that some accepted job named is full if the flag is 1 or some accepted job that named it brought the enhancement, and
-- base only otherwise
unfoldable pub full_after : Plan → ℕ → ℕ → List Job → ℕ → Bool
full_after p a b js k = cond (eqb p.header.disabled 1) (named a b js k) (enhanced a b js k)

unfoldable pub base_only_after : Plan → ℕ → ℕ → List Job → ℕ → Bool
base_only_after p a b js k = named a b js k && not (full_after p a b js k)

-- how many of 0 .. n - 1 pass the test
unfoldable pub count_below : (ℕ → Bool) → ℕ → ℕ
count_below test zero = 0
count_below test (suc n) = count_below test n + cond (test n) 1 0

-- rows left: how many row pairs of the picture no accepted job of the sequence has named; and how many are base only
abbrev pub rows_left_after : Plan → ℕ → ℕ → List Job → ℕ
rows_left_after p a b js = count_below (λ k. not (named a b js k)) p.header.pairs

abbrev pub rows_base_only_after : Plan → ℕ → ℕ → List Job → ℕ
rows_base_only_after p a b js = count_below (base_only_after p a b js) p.header.pairs
