-- `held` meets its contract: the pieces that are carried, and of version 1 piece n again. Assumes nothing.
use Rattle.sections.proofs.Making.{made_held}
use Rattle.sections.proofs.pieces.held.Goals as goal

pub returns : goal.returns
returns c =
    made_held _ _ c.args.version c.args.n _ c.requires (rw c.pieces_carried.ensures.is at c.in_ok-carried.ensures) c.copy_last.ensures
