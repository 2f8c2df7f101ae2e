-- `table_rules::method_of` meets its contract: what luma could be has no MMR piece. Assumes nothing.
use mathlib.Core.Path.{sym, ap₂, ◌∙◌}
use mathlib.Core.Bool.{◌&&◌}
use Rattle.plan.specs.Rule7.{fitting}
use Rattle.plan.specs.Tables.{has_mmr}
use Rattle.plan.proofs.Polynomials.{all_luma}
use Rattle.rule_seven.proofs.Whole.{each}
use Rattle.table_rules.proofs.Refusing.{polynomials_alone, mmr_too, none}
use Rattle.table_rules.proofs.method_of.Goals as goal

pub returns-then-luma-blue : goal.returns-then-luma-blue
returns-then-luma-blue c =
    let p = c.args.plan in
    let alone = ap₂ ◌&&◌ c.is_usable-luma.ensures (ap₂ ◌&&◌ c.is_usable-blue.ensures c.is_usable-red.ensures) ∙ all_luma p in
    polynomials_alone (fitting p) (has_mmr p) (sym alone ∙ c.if-luma-blue.true)

pub returns-then-luma-any_blue : goal.returns-then-luma-any_blue
returns-then-luma-any_blue c =
    let p = c.args.plan in
    let alone = ap₂ ◌&&◌ c.is_usable-luma.ensures (ap₂ ◌&&◌ c.is_usable-blue.ensures c.is_usable-red.ensures) ∙ all_luma p in
    let any = ap₂ ◌&&◌ c.is_usable-luma.ensures (ap₂ ◌&&◌ c.is_usable-any_blue.ensures c.is_usable-any_red.ensures) ∙ each p in
    mmr_too (fitting p) (has_mmr p) (sym alone ∙ c.if-luma-blue.false) (sym any ∙ c.if-luma-any_blue.true)

pub returns-else-luma-any_blue : goal.returns-else-luma-any_blue
returns-else-luma-any_blue c =
    let p = c.args.plan in
    let any = ap₂ ◌&&◌ c.is_usable-luma.ensures (ap₂ ◌&&◌ c.is_usable-any_blue.ensures c.is_usable-any_red.ensures) ∙ each p in
    none (fitting p) (has_mmr p) (sym any ∙ c.if-luma-any_blue.false)
