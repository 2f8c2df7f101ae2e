use Rattle.std.proofs.Common.{◌+◌, arith}
use Rattle.pen.proofs.Putting.{two_bytes}
use Rattle.writer.proofs.Framing.{made_trailer}
use Rattle.writer.proofs.trailer.put_trailer.Goals as goal

-- `put_trailer` meets its contract. Assumes nothing.
pub returns : goal.returns
returns c =
    let few = c.args.lengths.few in
    made_trailer _ (24 + (c.args.lengths.y + (c.args.lengths.cb + c.args.lengths.cr))) (c.args.lengths.y + (c.args.lengths.cb + c.args.lengths.cr)) (c.args.lengths.cb + c.args.lengths.cr) c.args.lengths.cr c.args.version c.requires
    (rw (c.to_be_bytes.ensures, two_bytes (24 + (c.args.lengths.y + (c.args.lengths.cb + c.args.lengths.cr))) (omega arith)) at c.put.ensures)
    (rw (c.to_be_bytes-2.ensures, two_bytes (c.args.lengths.y + (c.args.lengths.cb + c.args.lengths.cr)) (omega arith)) at c.put-2.ensures)
    (rw (c.to_be_bytes-3.ensures, two_bytes (c.args.lengths.cb + c.args.lengths.cr) (omega arith)) at c.put-3.ensures)
    (rw (c.to_be_bytes-4.ensures, two_bytes c.args.lengths.cr (omega arith)) at c.put-4.ensures)
    (rw (c.to_be_bytes-5.ensures, two_bytes c.args.version (omega arith)) at c.put-5.ensures)
    (rw (two_bytes 0 (omega arith)) at c.put-6.ensures)
