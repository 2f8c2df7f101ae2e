use mathlib.Core.Path.{sym, ◌∙◌}
use native.Mathlib.Omega.{arith}
use Rattle.rules.proofs.Large.{without_enhancement, with_enhancement}
use Rattle.rules.proofs.samples.is_wrong_sample.Goals as goal

-- `rules::samples::is_wrong_sample` meets its contract. Assumes nothing.
pub large_in_picture-large-requires : goal.large_in_picture-large-requires
large_in_picture-large-requires c =
    (rw c.extent_of-e.ensures c.requires.header_facts.1, c.requires.header_facts.0.base_depth)

pub returns-then-not-is_used : goal.returns-then-not-is_used
returns-then-not-is_used c =
    without_enhancement c.args.h _ _ _ _ _ c.extent_of-e.ensures _ c.large_in_picture-large.ensures
    (sym c.is_used.ensures ∙ c.if-not-is_used.true)

pub large_in_picture-requires : goal.large_in_picture-requires
large_in_picture-requires c =
    (rw c.extent_of-e.ensures (c.requires.in_picture (sym c.is_used.ensures ∙ c.if-not-is_used.false)), omega (arith, c.requires.header_facts.0.base_depth, c.requires.header_facts.0.same_depth))

pub returns : goal.returns
returns c =
    with_enhancement c.args.h _ _ _ _ _ c.extent_of-e.ensures _ _ c.large_in_picture-large.ensures c.large_in_picture.ensures
    (sym c.is_used.ensures ∙ c.if-not-is_used.false)

pub overflow_add-last : goal.overflow_add-last
overflow_add-last c =
    omega (arith, c.requires.header_facts.1.within, c.requires.header_facts.0.few_pairs)
