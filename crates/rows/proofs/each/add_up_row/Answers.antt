use Rattle.rows.proofs.Lending.{added_up-row}
use Rattle.rows.proofs.each.add_up_row.Goals as goal

-- `rows::each::add_up_row` meets its contract. Assumes nothing.
pub returns : goal.returns
returns c = added_up-row c.args.p c.args.k _ _ _ c.requires.0 c.requires.1.1 _ _ _ _ c.requires.1.0 c.add_up.ensures
