-- An opening and a row job: their refusals, their answers, and what they leave in the output and in the marks.
use Rattle.std.specs.Prelude.{◌≡◌, Bool, true, false, not, ◌&&◌, cond, List, [], ◌∷◌, ℕ, ◌<◌, eqb, Result, length, get_or}
use Rattle.runs.specs.Runs.{painted, tally}
use Rattle.refusals.specs.declared.Refusal.{Refusal}
use Rattle.refusals.specs.Refusals.{Rule, rule, first_met, Outcome, granted, denied, outcome, says as answer_says}
use Rattle.picture.specs.Picture.{pair_at}
use Rattle.plan.specs.declared.Plan.{Plan}
use Rattle.plan.specs.Rule7.{fitting}
use Rattle.rules.specs.declared.Work.{Work}
use Rattle.rules.specs.Rules.{Source, Given, given, given_work, given_table, extent, rules}
use Rattle.marks.specs.Marks.{waits, base_only, full_at}
use Rattle.compose.specs.Composing.{makes_full, composes, composed_by}
use Rattle.jobs.specs.declared.Left.{Left}
use Rattle.jobs.specs.declared.Answer.{Answer}
use Rattle.jobs.specs.declared.Answer.TheVariants.{Done, Refused}

-- an opening tests rules 7 and 9, the latter on the marks alone
unfoldable pub opening_refusal : Plan → ℕ → ℕ
opening_refusal p marks-length = first_met (rule 7 (not (fitting p)) ∷ rule 9 (not (eqb marks-length p.header.pairs)) ∷ [])

unfoldable pub opening_accepted : Plan → ℕ → Bool
opening_accepted p marks-length = eqb (opening_refusal p marks-length) 0

-- what the answer says: the ticket handed back, or the refusal's number alone
abbrev pub opened_says : Result ℕ Refusal → Outcome
opened_says opened = answer_says (λ ticket. ticket ∷ []) opened

unfoldable pub opening_answer : Plan → ℕ → ℕ → Outcome
opening_answer p ticket marks-length = outcome (opening_refusal p marks-length) (ticket ∷ [])

-- every mark is 0 afterwards: its row pair waits; a refused opening writes nothing
unfoldable pub opening_marks : Plan → List ℕ → List ℕ
opening_marks p marks = cond (opening_accepted p (length marks)) (painted (λ k. true) (λ k. 0) marks) marks

-- what a job is given, besides the output and the marks: its work, the opened picture's ticket and its own
pub record Job : Type 0 where
  pub work : Given
  pub open_ticket : ℕ
  pub ticket : ℕ

abbrev pub job_work : Source → Plan → ℕ → ℕ → Work → Job
job_work s p o t w = record { work = given_work s p w; open_ticket = o; ticket = t }

abbrev pub job : Plan → ℕ → ℕ → ℕ → ℕ → List ℕ → List ℕ → Job
job p o t f n b e = record { work = given p f n b e; open_ticket = o; ticket = t }

-- the same job, lent a table of mapped samples
abbrev pub lend : List ℕ → Job → Job
lend table j = record { work = given_table j.work.plan table j.work.first j.work.count j.work.base j.work.enhancement; open_ticket = j.open_ticket; ticket = j.ticket }

abbrev pub table_job : Plan → List ℕ → ℕ → ℕ → ℕ → ℕ → List ℕ → List ℕ → Job
table_job p table o t f n b e = lend table (job p o t f n b e)

-- what a job tests before it looks at the pictures: rule 8, and rule 9 on the marks
abbrev pub before_pictures : Job → ℕ → List Rule
before_pictures j marks-length =
    rule 8 (not (eqb j.ticket j.open_ticket)) ∷ rule 9 (not (eqb marks-length j.work.plan.header.pairs)) ∷ []

-- rules 7 to 11 in their order, and of a job that is lent a table 13 after 9, with the lengths of the output and of the marks; 0 where none is met
unfoldable pub job_refusal : Job → ℕ → ℕ → ℕ
job_refusal j output-length marks-length = first_met (rules (before_pictures j marks-length) j.work output-length)

unfoldable pub accepted : Job → ℕ → ℕ → Bool
accepted j output-length marks-length = eqb (job_refusal j output-length marks-length) 0

-- demand 2: the sample at index i is the composing process of clause 5.4 at that sample's base and enhancement values; of a job that
-- is lent a table, with the mapped samples that it finds there
abbrev pub sample : Job → ℕ → ℕ
sample j = composed_by j.work.source j.work.plan j.work.base j.work.enhancement

-- R-6: a job makes full row pairs where the flag is 1 or it brings an enhancement that is used, and base-only ones otherwise
abbrev pub is_full : Job → Bool
is_full j = makes_full j.work.plan.header (length j.work.enhancement)

-- an accepted job composes row pairs that it names and marks them, 1 as full or 2 as base only, and writes nothing else; one that
-- makes base-only ones keeps those that are full
unfoldable pub output_after : Job → List ℕ → List ℕ → List ℕ
output_after j output marks =
    cond (accepted j (length output) (length marks))
    (painted (λ i. composes j.work marks (pair_at (extent j.work.plan.header) i)) (sample j) output)
    output

unfoldable pub marks_after : Job → List ℕ → List ℕ → List ℕ
marks_after j output marks =
    cond (accepted j (length output) (length marks)) (painted (composes j.work marks) (λ k. cond (is_full j) 1 2) marks) marks

-- what each case of the answer says: done, with the rows left and the base-only ones, or refused, with the number alone
abbrev pub says : Answer → Outcome
says (Done left base_only) = granted (left ∷ base_only ∷ [])
says (Refused k) = denied k

-- the same of the rows left, or the rule by which it is refused, of which such an answer is made
abbrev pub left_says : Result Left Refusal → Outcome
left_says done = answer_says (λ left. left.waiting ∷ left.base_only ∷ []) done

-- rows left are the marks that wait after the job, and beside them stand those that are base only
unfoldable pub job_answer : Job → List ℕ → List ℕ → Outcome
job_answer j output marks =
    let after = marks_after j output marks in
    outcome (job_refusal j (length output) (length marks)) (tally waits after ∷ tally base_only after ∷ [])

abbrev pub rows_left : Outcome → ℕ
rows_left o = get_or o.values 0 0

abbrev pub rows_base_only : Outcome → ℕ
rows_base_only o = get_or o.values 1 0

-- complete is said exactly where the job is done and no row pair is left
abbrev pub complete : Outcome → Bool
complete o = not o.refused && eqb (rows_left o) 0

-- demand 2, of every job
pub record EverySample : Type 0 where
  -- each sample of the row pairs that an accepted job composes
  pub composed : (j : Job) (output marks : List ℕ) → accepted j (length output) (length marks) ≡ true → (i : ℕ) → i < length output → composes j.work marks (pair_at (extent j.work.plan.header) i) ≡ true → get_or (output_after j output marks) i 0 ≡ sample j i
  -- every other sample is as it was, and so is every sample where the job is refused
  pub others : (j : Job) (output marks : List ℕ) (i : ℕ) → i < length output → composes j.work marks (pair_at (extent j.work.plan.header) i) ≡ false → get_or (output_after j output marks) i 0 ≡ get_or output i 0
  pub refused : (j : Job) (output marks : List ℕ) → accepted j (length output) (length marks) ≡ false → output_after j output marks ≡ output
  -- R-6: a job that makes base-only row pairs keeps the full ones, samples and marks
  pub kept_samples : (j : Job) (output marks : List ℕ) (i : ℕ) → i < length output → is_full j ≡ false → full_at marks (pair_at (extent j.work.plan.header) i) ≡ true → get_or (output_after j output marks) i 0 ≡ get_or output i 0
  pub kept_marks : (j : Job) (output marks : List ℕ) (k : ℕ) → k < length marks → is_full j ≡ false → full_at marks k ≡ true → get_or (marks_after j output marks) k 0 ≡ get_or marks k 0
