use Rattle.rows.proofs.Lending.{looked_up-row}
use Rattle.rows.proofs.each.look_up_row.Goals as goal

-- `rows::each::look_up_row` meets its contract. Assumes nothing.
pub returns : goal.returns
returns c =
    looked_up-row c.args.p c.args.k _ _ _ c.requires.0 c.requires.1 _ c.look_up.ensures
