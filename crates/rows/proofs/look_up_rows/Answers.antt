-- `rows::look_up_rows` meets its contract. Assumes nothing.
use mathlib.Core.Path.{sym, ◌∙◌}
use Rattle.rows.proofs.Lending.{lie_both, not_looked_up, all-looked_up}
use Rattle.rows.proofs.look_up_rows.Goals as goal

pub returns-then-in_base-in_output : goal.returns-then-in_base-in_output
returns-then-in_base-in_output c =
    let s = c.args in
    let given = lie_both s.p s.r _ _ s.base.now s.output.now c.lies-in_base.ensures c.lies-in_output.ensures c.if-in_base-in_output.true in
    c.look_up_each.ensures ∙ sym (all-looked_up s.p s.r s.base.now s.output.now given.0 given.1 _ _)

pub returns-else-in_base-in_output : goal.returns-else-in_base-in_output
returns-else-in_base-in_output c =
    not_looked_up c.args.p c.args.r _ _ _ _ c.args.base.now c.args.output.now c.lies-in_base.ensures c.lies-in_output.ensures c.if-in_base-in_output.false

pub look_up_each-requires : goal.look_up_each-requires
look_up_each-requires c =
    let s = c.args in
    lie_both s.p s.r _ _ s.base.now s.output.now c.lies-in_base.ensures c.lies-in_output.ensures c.if-in_base-in_output.true
