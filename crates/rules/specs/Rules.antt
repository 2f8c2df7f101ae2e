-- What composing row pairs is given, and the rules that it tests, in their order (the house rules' table).
use Rattle.std.specs.Prelude.{Bool, not, ◌&&◌, ◌||◌, List, [], ◌∷◌, ◌++◌, ℕ, ◌+◌, ◌^◌, eqb, ltb, length}
use Rattle.runs.specs.Runs.{between, some, at_least}
use Rattle.refusals.specs.Refusals.{Rule, rule, first_met}
use Rattle.picture.specs.declared.Extent.{Extent}
use Rattle.picture.specs.Picture.{picture_size, in_pairs}
use Rattle.plan.specs.declared.Header.{Header}
use Rattle.plan.specs.declared.Plan.{Plan}
use Rattle.plan.specs.Ranges.{bl_depth, el_depth}
use Rattle.plan.specs.Rule7.{fitting}
use Rattle.plan.specs.Tables.{table_size, has_mmr}
use Rattle.rules.specs.declared.Work.{Work}

-- where a call has its mapped samples from: it works them out by the plan, or finds them in a table that it is lent
pub data Source : Type 0 where
  by_plan : Source
  by_table : List ℕ → Source

-- what a call is given, besides the memory that it writes
pub record Given : Type 0 where
  pub plan : Plan
  pub source : Source
  pub first : ℕ
  pub count : ℕ
  pub base : List ℕ
  pub enhancement : List ℕ

abbrev pub given_by : Source → Plan → ℕ → ℕ → List ℕ → List ℕ → Given
given_by s p f n b e = record { plan = p; source = s; first = f; count = n; base = b; enhancement = e }

abbrev pub given_work : Source → Plan → Work → Given
given_work s p w = given_by s p w.first w.count w.base.now w.enhancement.now

abbrev pub given : Plan → ℕ → ℕ → List ℕ → List ℕ → Given
given p f n b e = given_by by_plan p f n b e

abbrev pub given_table : Plan → List ℕ → ℕ → ℕ → List ℕ → List ℕ → Given
given_table p t f n b e = given_by (by_table t) p f n b e

-- the size of a header's picture
abbrev pub extent : Header → Extent
extent h = record { columns = h.columns; pairs = h.pairs }

-- the call names row pair k
unfoldable pub names : Given → ℕ → Bool
names g k = between g.first (g.first + g.count) k

-- 5.3.2: the enhancement is used where the flag is 0 and a picture is present
unfoldable pub used : Header → ℕ → Bool
used h enhancement-length = eqb h.disabled 0 && ltb 0 enhancement-length

-- rule 9, on the pictures: a run has the wrong length
unfoldable pub wrong_length : Header → ℕ → ℕ → ℕ → Bool
wrong_length h base enhancement output =
    let size = picture_size (extent h) in
    not (eqb base size) || (not (eqb output size) || (used h enhancement && not (eqb enhancement size)))

-- rule 10: no row pair, or one past the last
unfoldable pub wrong_pairs : Header → ℕ → ℕ → Bool
wrong_pairs h first count = eqb count 0 || ltb h.pairs (first + count)

-- rule 11: a sample that is used, in the row pairs from `first` up to `last`, is 2 ^ depth or more
unfoldable pub wrong_sample : Header → ℕ → ℕ → List ℕ → List ℕ → Bool
wrong_sample h first last base enhancement =
    some (in_pairs (extent h) first last) (at_least (2 ^ bl_depth h)) base
    || (used h (length enhancement) && some (in_pairs (extent h) first last) (at_least (2 ^ el_depth h)) enhancement)

-- what is tested of the row pairs
abbrev pub rows_rules : Header → ℕ → ℕ → List ℕ → List ℕ → List Rule
rows_rules h first count base enhancement =
    rule 10 (wrong_pairs h first count) ∷ rule 11 (wrong_sample h first (first + count) base enhancement) ∷ []

-- what is tested of a table that is lent: rule 9 on its length, and then rule 13, that the plan has such a table
abbrev pub table_rules : Plan → ℕ → List Rule
table_rules p table-length = rule 9 (not (eqb table-length (table_size p.header))) ∷ rule 13 (has_mmr p) ∷ []

abbrev pub source_rules : Plan → Source → List Rule
source_rules p by_plan = []
source_rules p (by_table t) = table_rules p (length t)

-- the rules in their order: 7, then those that a call tests before it looks at the pictures, then 9, those of a lent table, 10 and 11
unfoldable pub rules : List Rule → Given → ℕ → List Rule
rules before g output-length =
    rule 7 (not (fitting g.plan))
    ∷ (before
    ++ (rule 9 (wrong_length g.plan.header (length g.base) (length g.enhancement) output-length)
    ∷ (source_rules g.plan g.source
    ++ rows_rules g.plan.header g.first g.count g.base g.enhancement)))

-- the number of the first one met, with the output's length; 0 where none is
unfoldable pub refusal : Given → ℕ → ℕ
refusal g output-length = first_met (rules [] g output-length)
