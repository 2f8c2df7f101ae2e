use Rattle.std.proofs.Common.{arith}
use Rattle.section_writer.proofs.Making.{piece_room, made_piece}
use Rattle.section_writer.proofs.piece.piece.Goals as goal

-- `piece` meets its contract. Assumes nothing.
pub coefficients-requires-clause-count_in_bounds : goal.coefficients-requires-clause-count_in_bounds
coefficients-requires-clause-count_in_bounds c = omega (arith, piece_room c.args.out.now c.args.at c.args.d c.args.q.now c.coefficients_used-used.ensures.is c.requires.q_in_bounds)

pub returns : goal.returns
returns c = made_piece c.args.out.now c.args.at c.args.d c.args.q.now c.coefficients_used-used.ensures.is c.requires.q_in_bounds c.put.ensures c.coefficients.ensures
