use Rattle.standard.proofs.Examples.{last_pieces}
use Rattle.standard.proofs.worked_last_pieces.Statement.{statement}
use Rattle.standard.proofs.worked_last_pieces.Tie as tie

returns : tie.Need-returns
returns c = last_pieces

pub worked_last_pieces_spec : {M : Type 1} → statement M
worked_last_pieces_spec = tie.close (tie.spec returns)
