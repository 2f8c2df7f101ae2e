use Rattle.std.proofs.Common.{arith}
use Rattle.filling.proofs.Meaning.{part_painted}
use Rattle.filling.proofs.fill_part.Goals as goal

-- `fill_part` meets its contract. Assumes nothing.
pub returns : goal.returns
returns c = rw c.copy_from_slice.ensures.after (part_painted c.args.mapped.now c.args.table.now c.args.from c.args.codes (omega arith) (omega arith))
