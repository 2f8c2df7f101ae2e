use mathlib.Core.Path.{◌≡◌, sym, ◌∙◌}
use mathlib.Core.Bool.{true}
use Rattle.plan.specs.Rule7.{fitting}
use Rattle.plan.proofs.Facts.{header-passed}
use Rattle.rules.specs.Rules.{rules, refusal}
use Rattle.rules.proofs.refusal_of.Goals as goal

-- `rules::refusal_of` meets its contract: rule 7, and then the others. Assumes nothing.
pub returns : goal.returns
unfolding refusal rules
returns c =
    let fits : fitting c.args.plan ≡ true = sym c.passes.ensures ∙ c.if-not-passes.false in
    rw fits (rw (header-passed c.args.plan fits) at c.refusal_of_pictures.ensures)
