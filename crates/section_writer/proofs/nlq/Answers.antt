use Rattle.std.proofs.Common.{arith}
use Rattle.pen.proofs.Putting.{two_bytes}
use Rattle.section_writer.proofs.Making.{made_nlq}
use Rattle.section_writer.proofs.nlq.Goals as goal

-- `nlq` meets its contract. Assumes nothing.
pub returns : goal.returns
returns c =
    made_nlq c.args.at c.args.d c.args.q c.requires.0 c.requires.1
    (rw (c.to_be_bytes.ensures, two_bytes c.args.q.offset (omega arith)) at c.put.ensures)
    (rw c.into.ensures at c.number.ensures) (rw c.into-2.ensures at c.number-2.ensures) (rw c.into-3.ensures at c.number-3.ensures)
