-- Filling a table that is lent with the mapped samples of a plan: its rules, its answer, and what the table holds afterwards.
use Rattle.std.specs.Prelude.{true, not, cond, List, [], ◌∷◌, ℕ, ◌/◌, ◌%◌, ◌^◌, eqb, length, replicate, Result}
use Rattle.runs.specs.Runs.{painted}
use Rattle.refusals.specs.declared.Refusal.{Refusal}
use Rattle.refusals.specs.Refusals.{rule, first_met, Outcome, outcome, says as told}
use Rattle.standard.specs.Mapping.{mapped}
use Rattle.plan.specs.declared.Component.{Component}
use Rattle.plan.specs.declared.Plan.{Plan}
use Rattle.plan.specs.Ranges.{bl_depth}
use Rattle.plan.specs.Parameters.{mapping}
use Rattle.plan.specs.Rule7.{fitting}
use Rattle.plan.specs.Tables.{table_size}
use Rattle.rules.specs.Rules.{table_rules}

-- rules 7, 9 (the table's length) and 13 (an MMR piece), in this order; 0 where none is met
unfoldable pub filling_refusal : Plan → ℕ → ℕ
filling_refusal p table-length = first_met (rule 7 (not (fitting p)) ∷ table_rules p table-length)

-- part k of a table: luma, then Cb, then Cr
abbrev pub part_component : Plan → ℕ → Component
part_component p k = cond (eqb k 0) p.y (cond (eqb k 1) p.cb p.cr)

-- 5.4.2: the mapped sample of each code of each component; without MMR it goes by the component's own sample alone
unfoldable pub table_entry : Plan → ℕ → ℕ
table_entry p i =
    let h = p.header in
    let codes = 2 ^ bl_depth h in
    mapped (bl_depth h) h.d (mapping (part_component p (i / codes))) (i % codes)

-- the table that is filled from a plan
unfoldable pub filled : Plan → List ℕ
filled p = painted (λ i. true) (table_entry p) (replicate (table_size p.header) 0)

-- what a lent run holds after the call: that table, or what it held where the filling is refused
unfoldable pub table_after : Plan → List ℕ → List ℕ
table_after p table = cond (eqb (filling_refusal p (length table)) 0) (filled p) table

-- what the answer says: filled, with no value, or refused, with the number alone
abbrev pub says : Result (Unit {0}) Refusal → Outcome
says result = told (λ u. []) result

-- and what the call answers
unfoldable pub filling_answer : Plan → ℕ → Outcome
filling_answer p table-length = outcome (filling_refusal p table-length) []
