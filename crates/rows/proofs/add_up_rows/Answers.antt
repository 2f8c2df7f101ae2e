-- `rows::add_up_rows` meets its contract. Assumes nothing.
use mathlib.Core.Path.{sym, ◌∙◌}
use Rattle.rows.proofs.Lending.{lie-three, not_added_up, all-added_up}
use Rattle.rows.proofs.add_up_rows.Goals as goal

pub returns-then-in_base-in_enhancement : goal.returns-then-in_base-in_enhancement
returns-then-in_base-in_enhancement c =
    let s = c.args in
    let given = lie-three s.p s.r _ _ _ s.base.now s.enhancement.now s.output.now c.lies-in_base.ensures c.lies-in_enhancement.ensures c.lies-in_output.ensures c.if-in_base-in_enhancement.true in
    c.add_up_each.ensures ∙ sym (all-added_up s.p s.r s.base.now s.output.now given.0 given.1.1 _ _ _ s.enhancement.now given.1.0)

pub returns-else-in_base-in_enhancement : goal.returns-else-in_base-in_enhancement
returns-else-in_base-in_enhancement c =
    not_added_up c.args.p c.args.r _ _ _ _ _ _ c.args.base.now c.args.enhancement.now c.args.output.now c.lies-in_base.ensures c.lies-in_enhancement.ensures c.lies-in_output.ensures c.if-in_base-in_enhancement.false

pub add_up_each-requires : goal.add_up_each-requires
add_up_each-requires c =
    let s = c.args in
    lie-three s.p s.r _ _ _ s.base.now s.enhancement.now s.output.now c.lies-in_base.ensures c.lies-in_enhancement.ensures c.lies-in_output.ensures c.if-in_base-in_enhancement.true
